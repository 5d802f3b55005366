pub mod Tables
pub mod Spell
pub mod Count
pub mod Words
pub mod inner
