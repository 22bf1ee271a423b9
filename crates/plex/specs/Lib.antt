pub mod Sets
pub mod Words
pub mod Least
pub mod Meaning
pub mod Distance
pub mod Laws
