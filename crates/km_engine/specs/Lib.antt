pub mod Session
pub mod Headline
pub mod Outcome
pub mod Steps
pub mod Bench
pub mod Program
