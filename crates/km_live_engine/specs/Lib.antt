pub mod Session
pub mod Outcome
pub mod Steps
pub mod Program
