pub mod Kept
pub mod Slots
pub mod Spread
pub mod Spreading
pub mod Ordered
pub mod Workers
pub mod Tied
