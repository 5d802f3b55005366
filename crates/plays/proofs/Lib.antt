pub mod Items
pub mod Weights
pub mod Counting
pub mod Filled
pub mod Losing
pub mod Sequences
pub mod Variations
pub mod Passing
