pub mod Points
pub mod Arrivals
pub mod Splits
