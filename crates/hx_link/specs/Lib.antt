pub mod Exchanges
pub mod Running
pub mod Reading
pub mod Inside
