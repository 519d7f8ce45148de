-- What is not due of a text at whose line something is wrong.
pub mod Due
pub mod Left
pub mod NoLines
pub mod Plain
pub mod Refused
pub mod RefusedBodies
pub mod RefusedMessages
