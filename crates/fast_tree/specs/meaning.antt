-- Definitions on which the contracts of public functions rest.
pub mod Tree
pub mod Sizes
pub mod AsWritten
pub mod Entries
pub mod Nodes
pub mod NodeData
pub mod Numbers
pub mod Usable
