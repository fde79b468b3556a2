pub mod Splits
pub mod Numbers
pub mod Addresses
pub mod Readers
pub mod Acts
pub mod Answers
pub mod Solid
pub mod Texts
pub mod Same
pub mod Files
pub mod Runs
mod ExampleJournals
