pub mod Registers
pub mod Shown
pub mod Made
pub mod Reading
