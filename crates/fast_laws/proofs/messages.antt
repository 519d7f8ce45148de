-- What the events of messages and streams say.
pub mod Streams
pub mod Nesting
pub mod Counting
pub mod RaisedMessages
