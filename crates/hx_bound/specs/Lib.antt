pub mod Rank
pub mod Bound
pub mod Turns
pub mod Settles
