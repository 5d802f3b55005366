pub mod Headers
pub mod Lines
pub mod Stores
