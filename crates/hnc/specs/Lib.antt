pub mod Generating
pub mod Headline
pub mod Printed
pub mod Reports
pub mod Serving
