-- Nodes as they are built, and the tree that they stand for.
pub mod Measures
pub mod Walks
pub mod Bodies
pub mod BuiltLists
pub mod BuildingNeeds
pub mod BuiltTrees
pub mod BuiltSets
pub mod BuiltUsable
