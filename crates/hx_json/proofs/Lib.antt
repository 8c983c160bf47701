pub mod RoundTrip
pub mod Canonical
pub mod Versions
pub mod Legal
mod ReadExamples
mod ResourceExamples
mod TreeExamples
pub mod NoFloat
pub mod Trees
pub mod Numbers
pub mod Kept
pub mod Orders
pub mod Escapes
pub mod Steps
pub mod Pushes
pub mod Spliced
mod WrittenExamples
pub mod InOrder
pub mod Payloads
pub mod Telling
pub mod Given
pub mod Statuses
pub mod ReadBack
pub mod Keys
pub mod RowsBack
pub mod KeyTexts
pub mod Normal
pub mod Needs
pub mod Quotas
pub mod Usages
pub mod EventTexts
mod EventExamples
