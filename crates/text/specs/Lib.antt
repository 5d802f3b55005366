pub mod Text
pub mod Utf8
pub mod inner
