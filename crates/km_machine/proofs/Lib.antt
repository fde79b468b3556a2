mod Entries
mod Listings
pub mod Pieces
pub mod Told
pub mod Rooms
pub mod Sayings
pub mod Stepping
pub mod Scanning
pub mod Timely
pub mod Ticking
pub mod Lines
pub mod Stores
