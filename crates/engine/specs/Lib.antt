pub mod State
pub mod Effects
pub mod Table
pub mod Outcome
