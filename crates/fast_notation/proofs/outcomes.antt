-- What is told of a text: its tree, or its first fault.
pub mod SetFaults
pub mod ReadLaws
pub mod NoTrees
pub mod Firsts
