pub mod Orders
pub mod Merges
pub mod Kept
pub mod Keys
pub mod Packs
pub mod Buffers
