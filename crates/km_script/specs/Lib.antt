pub mod Bytes
pub mod Marks
pub mod Left
pub mod Words
pub mod Keywords
pub mod Roles
