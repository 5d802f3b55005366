pub mod Laws
pub mod Readings
pub mod Widths
pub mod Passing
pub mod Answers
pub mod Ends
pub mod Boundaries
