pub mod Refusals
pub mod Meanings
pub mod Laws
pub mod Runs
