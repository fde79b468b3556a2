pub mod FirstFit
pub mod Writes
pub mod Touching
pub mod Laying
pub mod Changes
pub mod Owners
pub mod Undoing
pub mod Beside
