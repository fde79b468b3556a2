pub mod Lookups
pub mod Beside
