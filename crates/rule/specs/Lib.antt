pub mod Passes
pub mod Questions
pub mod Rooms
