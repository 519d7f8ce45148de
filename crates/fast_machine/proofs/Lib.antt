pub mod machines
pub mod streams
pub mod units
pub mod fields
pub mod steps
