mod Pushed
pub mod Eventful
