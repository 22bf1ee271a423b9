pub mod Drawn
pub mod Entries
pub mod Following
pub mod Noted
