pub mod Texts
pub mod Growing
pub mod Hooking
pub mod Lines
pub mod Putting
pub mod Wholes
