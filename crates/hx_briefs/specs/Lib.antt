pub mod Briefing
pub mod Wants
