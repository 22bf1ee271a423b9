pub mod Passing
pub mod Plexes
pub mod Deciding
pub mod Pairs
