pub mod Numbers
pub mod Limits
pub mod Refusals
pub mod Stores
pub mod Looks
pub mod Waits
pub mod Blanks
pub mod Codes
