pub mod Named
pub mod Options
pub mod Choices
