pub mod Running
pub mod Pieces
pub mod Counts
