pub mod Limits
pub mod Steps
pub mod Notices
pub mod Rows
pub mod Changes
pub mod Lists
pub mod Owing
