pub mod Notes
pub mod Rounds
