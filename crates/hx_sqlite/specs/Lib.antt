pub mod Alone
pub mod Paths
pub mod Refusals
pub mod Seats
pub mod Shown
