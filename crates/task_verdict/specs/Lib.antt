pub mod Plain
pub mod Judgements
pub mod Misses
