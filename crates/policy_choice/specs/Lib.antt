pub mod Chooses
pub mod Picked
