pub mod Finding
pub mod Following
mod HubExamples
pub mod Ringing
mod WindowExamples
