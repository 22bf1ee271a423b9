pub mod Writing
pub mod Peeling
