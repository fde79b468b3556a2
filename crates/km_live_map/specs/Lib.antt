pub mod Ticks
pub mod Books
pub mod Views
pub mod Rule
