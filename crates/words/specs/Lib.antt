pub mod Words
pub mod Faults
pub mod Numbers
pub mod Readers
