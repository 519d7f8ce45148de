pub mod Paging
pub mod Closing
pub mod Dumping
pub mod Rounds
pub mod Ending
