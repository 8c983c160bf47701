pub mod Writing
pub mod Standing
pub mod Opening
pub mod Once
pub mod OneLine
mod Rows
