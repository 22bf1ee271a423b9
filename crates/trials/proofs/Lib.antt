pub mod Answering
pub mod Drawing
pub mod Noting
