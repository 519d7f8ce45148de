-- Lines say one event, one list of events and one list of messages.
pub mod OneBody
pub mod OneEvent
pub mod OneList
pub mod OneListOfEvents
pub mod OneReading
