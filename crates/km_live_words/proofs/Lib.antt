pub mod Orders
pub mod Words
pub mod Keeps
pub mod Places
