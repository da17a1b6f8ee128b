pub mod Pieces
pub mod Figures
pub mod Rows
pub mod Files
