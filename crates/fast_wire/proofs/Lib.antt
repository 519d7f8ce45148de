pub mod stop_bits
pub mod numbers
pub mod map_bits
