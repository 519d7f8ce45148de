pub mod Able
pub mod Answered
pub mod ReadBack
pub mod RoundTrips
