pub mod Edit
pub mod Outcomes
pub mod inner
