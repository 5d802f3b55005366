pub mod Codes
pub mod Slots
pub mod Kinds
pub mod Rows
