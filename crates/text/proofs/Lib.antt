-- The lemmas that other crates may use.
pub mod Fits
