pub mod Smallest
pub mod Formulas
pub mod Lawful
