pub mod All
pub mod Pick
pub mod Repeat
pub mod Test
