pub mod Verbs
pub mod Misuses
pub mod Readings
