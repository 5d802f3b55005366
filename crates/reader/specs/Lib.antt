pub mod TextLines
pub mod LinesPassed
pub mod inner
