pub mod Bytes
pub mod Verdicts
