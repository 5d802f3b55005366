pub mod Entries
pub mod Extending
pub mod Runs
