pub mod Roll
pub mod Lives
