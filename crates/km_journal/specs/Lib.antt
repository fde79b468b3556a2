pub mod Telling
pub mod Judging
pub mod Replays
pub mod Journals
pub mod Program
