pub mod Ending
pub mod Made
pub mod Counted
pub mod Priced
