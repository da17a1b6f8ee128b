pub mod Held
pub mod Memories
