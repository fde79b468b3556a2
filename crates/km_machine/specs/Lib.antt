pub mod Machines
pub mod Sayings
pub mod Lines
pub mod Scans
