pub mod Paths
pub mod FieldSelectors
pub mod Queries
pub mod Bodies
pub mod Asks
pub mod Replies
pub mod Inside
pub mod InsideRoutes
