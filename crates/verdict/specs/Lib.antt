pub mod Maps
pub mod Moments
pub mod Failures
pub mod Verdicts
