pub mod Heap
pub mod Line
