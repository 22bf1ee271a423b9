pub mod Groups
pub mod Reading
