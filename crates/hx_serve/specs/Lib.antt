pub mod Exchanges
pub mod Visits
pub mod Inside
