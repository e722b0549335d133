pub mod Cells
pub mod Arena
pub mod Cell
