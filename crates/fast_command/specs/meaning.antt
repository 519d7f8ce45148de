-- What is meant: the contracts of public functions rest on these definitions.
pub mod Closing
pub mod Showing
pub mod Report
pub mod Checking
pub mod Listing
pub mod Texts
pub mod Sets
pub mod Unhexing
