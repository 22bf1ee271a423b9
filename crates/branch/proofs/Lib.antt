pub mod Adding
pub mod Bearing
pub mod Sifts
pub mod Sweeps
pub mod Trims
pub mod Picks
pub mod Opening
pub mod Listing
