pub mod Leaving
pub mod Quiet
mod Reporting
mod Linking
mod Enough
mod Making
mod MakingLeft
