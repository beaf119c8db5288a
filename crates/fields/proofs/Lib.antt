pub mod Decimals
pub mod Given
pub mod Leftover
pub mod Sole
pub mod Turns
