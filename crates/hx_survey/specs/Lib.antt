pub mod Surveyed
pub mod Inside
pub mod Sums
pub mod Seams
