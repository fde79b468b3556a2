pub mod Runs
pub mod Loads
pub mod Ways
pub mod LoadsLower
pub mod Bounds
pub mod Moves
pub mod Raises
