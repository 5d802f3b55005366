pub mod Laws
pub mod Repeats
pub mod Stand
pub mod Tests
