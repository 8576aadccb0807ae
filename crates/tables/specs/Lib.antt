pub mod Orders
pub mod Keys
pub mod Places
pub mod Tables
pub mod Points
