pub mod Ticks
pub mod PutBack
pub mod Printed
pub mod Running
