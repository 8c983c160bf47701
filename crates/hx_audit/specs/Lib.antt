pub mod Auditing
pub mod Candidates
