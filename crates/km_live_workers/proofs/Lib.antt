pub mod Parts
pub mod Acts
pub mod Stays
pub mod Seating
pub mod Zips
pub mod Crossing
