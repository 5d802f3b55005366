pub mod Stopping
pub mod inner
