pub mod Identities
pub mod KindTests
pub mod NameExamples
pub mod NeedExamples
pub mod Sameness
pub mod Sizes
pub mod Putting
