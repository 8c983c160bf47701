pub mod Counting
pub mod Happening
pub mod Homes
pub mod Planning
pub mod StateView
