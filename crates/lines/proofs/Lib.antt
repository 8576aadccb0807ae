pub mod Named
pub mod Fields
pub mod Chosen
