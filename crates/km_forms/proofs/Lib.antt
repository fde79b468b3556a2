pub mod Limits
pub mod Counting
pub mod Going
pub mod Checked
pub mod Forms
