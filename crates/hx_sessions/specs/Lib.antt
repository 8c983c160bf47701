pub mod Held
pub mod Seats
pub mod Inside
