pub mod readings
pub mod texts
pub mod refusals
pub mod names
pub mod unique
pub mod values
