pub mod Claims
pub mod Runs
pub mod StartLists
pub mod KeptPrograms
mod General
