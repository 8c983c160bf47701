pub mod KeyOrder
pub mod Ranks
