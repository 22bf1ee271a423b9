pub mod Storing
pub mod Once
