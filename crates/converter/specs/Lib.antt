pub mod Headers
pub mod Diagrams
pub mod Entries
pub mod Said
pub mod Show
pub mod Writing
pub mod inner
