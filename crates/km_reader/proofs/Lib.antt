pub mod Calls
pub mod Caused
pub mod Ends
pub mod LineLists
pub mod Lists
pub mod Sources
pub mod Steps
