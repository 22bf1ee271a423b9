pub mod Rows
pub mod Among
pub mod PairLists
pub mod Places
pub mod Changing
pub mod Determined
