pub mod Enters
pub mod Lents
pub mod Sweeps
pub mod Openings
pub mod Ends
