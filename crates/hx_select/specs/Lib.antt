pub mod Inside
pub mod Matching
pub mod Tokens
pub mod Selectors
pub mod TreeSelects
pub mod TreeLabels
