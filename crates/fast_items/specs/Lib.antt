pub mod device
