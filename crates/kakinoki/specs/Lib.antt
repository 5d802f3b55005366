pub mod Informations
pub mod Boards
pub mod Starts
pub mod inner
