mod Numbers
mod Spaces
mod Texts
mod Ends
pub mod Simulating
pub mod Running
pub mod Making
pub mod Idling
pub mod Naming
pub mod Saying
pub mod Settling
pub mod Unended
pub mod Kept
pub mod Pieces
