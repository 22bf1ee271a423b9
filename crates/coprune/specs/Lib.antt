pub mod Waiting
pub mod Coprune
pub mod Answers
