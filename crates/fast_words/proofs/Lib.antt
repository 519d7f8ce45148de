pub mod Subcommands
pub mod Given
