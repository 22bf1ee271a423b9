-- The lemmas that other crates may use.
pub mod Rings
pub mod Lengths
