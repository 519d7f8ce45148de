pub mod lists
pub mod nodes
pub mod texts
pub mod outcomes
pub mod references
