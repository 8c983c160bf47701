pub mod ByName
pub mod Changes
pub mod Kept
pub mod Least
pub mod ObjectTable
pub mod Slots
pub mod Sources
