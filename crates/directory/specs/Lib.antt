pub mod Entries
pub mod Limits
pub mod Additions
