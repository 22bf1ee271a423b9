pub mod Counting
pub mod Wearing
pub mod Stepping
pub mod Working
pub mod Looking
pub mod Sweeping
pub mod Ending
