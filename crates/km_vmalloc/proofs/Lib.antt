pub mod Taking
pub mod Live
pub mod Opening
pub mod Changing
pub mod Beside
