pub mod Stacks
pub mod View
pub mod Starting
pub mod Making
pub mod Outcomes
pub mod Runs
pub mod Offers
