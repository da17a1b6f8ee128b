pub mod Overdue
pub mod Runs
pub mod Verdicts
