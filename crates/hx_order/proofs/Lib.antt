pub mod Ordered
pub mod Ranked
