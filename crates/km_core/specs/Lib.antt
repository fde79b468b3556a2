pub mod Parts
pub mod Kernels
pub mod Cores
