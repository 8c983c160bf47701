mod Counting
mod Deepening
mod EarlyFalls
mod Examples
mod KeysStaying
mod LateOrder
mod LateSteps
pub mod Ledgers
pub mod Ranking
mod Turning
pub mod WithinBound
