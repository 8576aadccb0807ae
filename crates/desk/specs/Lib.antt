pub mod Replies
pub mod Holdings
pub mod Views
