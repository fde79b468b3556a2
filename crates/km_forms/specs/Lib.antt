pub mod Lines
pub mod Forms
pub mod Counts
pub mod Checks
pub mod WordByWord
