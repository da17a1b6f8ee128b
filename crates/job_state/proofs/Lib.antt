pub mod Sames
pub mod Loops
pub mod Numbers
pub mod Serves
