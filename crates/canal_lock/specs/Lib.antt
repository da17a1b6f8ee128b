pub mod Refusals
pub mod Locks
pub mod Laws
pub mod Lawful
