pub mod Marked
pub mod Nearest
pub mod Wanting
