pub mod Lists
pub mod States
pub mod Releases
pub mod Ticks
pub mod Calls
