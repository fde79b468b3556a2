pub mod LeftIn
pub mod Laws
