pub mod Cuts
pub mod Decimals
