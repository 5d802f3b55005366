pub mod Sums
pub mod Tables
pub mod Kept
pub mod Walks
pub mod Whole
pub mod Examples
pub mod Longs
