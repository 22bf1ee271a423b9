pub mod Pruned
pub mod Rounds
pub mod Laws
