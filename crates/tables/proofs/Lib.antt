mod Shifts
pub mod Orders
pub mod Listed
pub mod Ordered
mod Places
