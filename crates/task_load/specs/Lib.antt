pub mod Fractions
pub mod Loads
