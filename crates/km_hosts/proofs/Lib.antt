pub mod Agreeing
pub mod Holding
pub mod Blocks
pub mod Opening
