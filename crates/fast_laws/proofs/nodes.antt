-- What a set that was read says of its nodes.
pub mod Nodes
pub mod Naming
pub mod Granting
