pub mod Bits
pub mod Pairs
pub mod Lookup
pub mod Meanings
pub mod Copying
pub mod Laws
