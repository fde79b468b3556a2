pub mod Orders
pub mod Journals
