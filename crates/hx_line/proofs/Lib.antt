pub mod Heaping
pub mod Placing
pub mod Sets
pub mod Lining
