pub mod Entries
pub mod Report
pub mod Recording
pub mod EntryCounts
pub mod Fields
