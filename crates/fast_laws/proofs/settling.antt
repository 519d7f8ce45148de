-- What is settled of a message: it is encoded, or refused.
pub mod Items
pub mod Fields
pub mod Keeping
pub mod Maps
pub mod Bodies
pub mod Deciding
pub mod Messages
pub mod Sets
pub mod Texts
