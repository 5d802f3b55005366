pub mod Model
pub mod Answers
pub mod Entries
pub mod Attaching
pub mod Following
pub mod Trees
pub mod inner
