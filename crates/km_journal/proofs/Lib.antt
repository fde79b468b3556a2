pub mod Judging
pub mod Listed
pub mod Events
pub mod Lines
pub mod Pieces
pub mod Checking
pub mod Checked
