pub mod Search
pub mod Codes
pub mod Written
pub mod Lookups
pub mod Answers
pub mod Counts
