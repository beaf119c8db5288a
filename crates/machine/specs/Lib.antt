pub mod States
pub mod Begins
pub mod Goings
