pub mod Members
pub mod Rising
