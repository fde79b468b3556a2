pub mod Records
pub mod Least
