pub mod Four
pub mod First
pub mod Lowering
pub mod Filtering
pub mod Picking
pub mod Coming
