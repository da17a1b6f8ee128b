pub mod Chains
pub mod Traces
