pub mod Sounds
pub mod Tests
