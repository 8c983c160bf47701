pub mod Codes
pub mod Fixed
pub mod Making
pub mod Settling
pub mod Visiting
pub mod Telling
