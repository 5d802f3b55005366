pub mod Writes
pub mod Room
pub mod Digits
pub mod Regions
