pub mod meaning
pub mod device
