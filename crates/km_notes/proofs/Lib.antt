mod Pieces
mod Walks
pub mod Noting
mod Rounds
