pub mod Ends
pub mod Verdict
pub mod Naming
pub mod Reading
