pub mod Bounds
pub mod Divisors
