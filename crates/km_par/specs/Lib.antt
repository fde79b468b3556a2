pub mod Loaders
