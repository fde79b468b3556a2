pub mod Settings
pub mod Found
pub mod Taken
