pub mod Tasks
pub mod Jobs
pub mod Refusals
pub mod Moves
