pub mod Coded
pub mod Turned
pub mod ShownAgain
pub mod ReadAgain
