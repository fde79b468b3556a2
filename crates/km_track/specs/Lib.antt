pub mod Tracker
pub mod Slots
pub mod Holds
pub mod Areas
