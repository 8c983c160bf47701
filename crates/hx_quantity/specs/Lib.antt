pub mod Inside
pub mod Printed
