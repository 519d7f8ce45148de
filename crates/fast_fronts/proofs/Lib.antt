pub mod stop_bits
pub mod numbers
