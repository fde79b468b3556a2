pub mod Parts
pub mod Courses
pub mod Leaving
pub mod Right
pub mod Waiting
pub mod Hired
pub mod Playing
pub mod Gathered
