pub mod Served
pub mod Stepping
mod Rows
