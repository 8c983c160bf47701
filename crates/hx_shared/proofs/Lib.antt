pub mod Orders
pub mod Seating
pub mod Turning
