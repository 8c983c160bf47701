pub mod Words
pub mod Outline
pub mod Outlined
pub mod Trees
pub mod Describing
pub mod Sums
pub mod Summing
pub mod Inside
