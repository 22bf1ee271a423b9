pub mod Sifting
pub mod Agreeing
pub mod Opened
