pub mod Kept
pub mod Writing
pub mod Names
pub mod Fronted
pub mod Blocks
mod Cells
