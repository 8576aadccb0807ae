pub mod Rolls
pub mod Written
