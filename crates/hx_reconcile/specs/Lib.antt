pub mod Briefs
pub mod Reaches
pub mod Sharing
