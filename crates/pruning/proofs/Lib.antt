pub mod Striking
pub mod Rounds
pub mod Keeping
pub mod Laws
