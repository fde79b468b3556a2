pub mod Codes
pub mod Words
pub mod Lines
pub mod Reading
pub mod File
pub mod Laws
