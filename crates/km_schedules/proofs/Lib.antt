pub mod Parts
pub mod Words
pub mod Events
pub mod Mutators
pub mod Scanner
pub mod Serial
pub mod Leads
pub mod Lines
