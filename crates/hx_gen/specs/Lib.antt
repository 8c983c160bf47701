pub mod Draws
pub mod Asked
pub mod Left
