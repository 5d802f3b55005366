pub mod Opened
pub mod Roomy
pub mod Hold
