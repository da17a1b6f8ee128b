pub mod Tasks
pub mod Refusals
pub mod Tables
