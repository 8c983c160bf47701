pub mod Fronts
pub mod Heads
pub mod Messages
pub mod Streams
pub mod Laws
pub mod Searches
pub mod Inside
pub mod Replies
