-- What terms hand over, in both modes, and with what follows.
pub mod Quiet
pub mod Lenient
pub mod MessageEvents
pub mod Costs
pub mod Continuations
