pub mod NewNumbers
pub mod Apart
pub mod Swapped
pub mod Alone
pub mod Ordered
pub mod Hold
