pub mod Leading
pub mod Asking
pub mod Linking
