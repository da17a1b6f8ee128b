pub mod Calls
pub mod Forcing
pub mod Replays
pub mod Outcomes
pub mod Lateness
