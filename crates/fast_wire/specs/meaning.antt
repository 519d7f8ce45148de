-- Definitions on which the contracts of public functions rest.
pub mod Entities
pub mod Integers
pub mod Texts
pub mod Maps
pub mod Shortest
pub mod Faulty
pub mod Laws
