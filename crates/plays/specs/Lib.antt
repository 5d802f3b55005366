pub mod Plays
pub mod Losses
pub mod Counted
pub mod inner
