pub mod Digits
pub mod Examples
pub mod Held
pub mod Numbers
pub mod PrintedBack
pub mod ReadBack
pub mod Scaling
