pub mod Groups
pub mod Documents
