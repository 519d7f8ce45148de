-- The nodes and templates that lines name.
pub mod LinedEvents
pub mod Named
pub mod Preorder
pub mod SetNames
pub mod AllNamed
