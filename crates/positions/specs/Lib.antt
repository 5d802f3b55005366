pub mod Steps
pub mod Pieces
pub mod Paths
pub mod Examples
