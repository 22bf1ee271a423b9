pub mod Parts
pub mod Bits
pub mod Entering
