mod terms
mod messages
pub mod nodes
mod fields
pub mod settling
