mod Support
pub mod Grown
mod Certain
mod Quiet
pub mod Prefixes
mod Confirmed
