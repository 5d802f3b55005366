pub mod Parse
pub mod Read
pub mod inner
