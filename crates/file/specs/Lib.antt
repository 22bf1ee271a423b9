pub mod Finding
pub mod Sheets
pub mod Points
