pub mod Columns
pub mod Telling
pub mod Walking
