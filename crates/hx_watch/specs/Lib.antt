pub mod Shown
pub mod Watching
pub mod Windows
