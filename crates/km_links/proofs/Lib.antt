pub mod Distinct
pub mod Segments
pub mod Chains
