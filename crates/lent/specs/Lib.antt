pub mod Bytes
pub mod Numbers
pub mod inner
pub mod Stored
