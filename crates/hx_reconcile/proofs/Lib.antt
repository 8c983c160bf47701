pub mod Examples
pub mod LabelNames
pub mod Labels
pub mod Leaving
pub mod Legal
pub mod Placing
pub mod Storable
