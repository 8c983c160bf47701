pub mod Nearest
pub mod Lowest
pub mod Holding
pub mod Senders
pub mod Keeping
pub mod Finding
pub mod Auditing
mod Rows
