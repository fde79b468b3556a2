pub mod Flags
pub mod Listings
pub mod Clears
pub mod Shown
