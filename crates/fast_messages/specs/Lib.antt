pub mod device
pub mod meaning
