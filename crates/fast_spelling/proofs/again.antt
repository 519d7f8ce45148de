-- What was read is encoded again.
pub mod Resent
pub mod Sound
pub mod Resending
pub mod FieldsAgain
pub mod MapsAgain
pub mod BodiesAgain
pub mod MessagesAgain
pub mod NoZeros
pub mod GrantedSets
pub mod Examples
