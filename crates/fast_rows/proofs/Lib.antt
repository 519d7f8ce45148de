pub mod Texts
pub mod InRows
pub mod Columned
