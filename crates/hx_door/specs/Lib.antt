pub mod Doors
pub mod Listening
pub mod Shown
