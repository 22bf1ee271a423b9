pub mod Rows
pub mod TwoMarks
pub mod Entering
