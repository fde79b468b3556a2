pub mod Steps
pub mod Changes
pub mod Scans
pub mod Gone
pub mod Adds
pub mod Parts
