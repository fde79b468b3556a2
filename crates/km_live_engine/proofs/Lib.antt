pub mod Fit
pub mod Rooms
pub mod Running
pub mod Totals
pub mod Lines
pub mod Endings
pub mod Runs
pub mod Answered
