pub mod Teaming
