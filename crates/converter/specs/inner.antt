pub mod Usuals
pub mod Places
pub mod Lines
pub mod Branches
