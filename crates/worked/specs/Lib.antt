pub mod Claimed
pub mod Outcomes
pub mod Setups
pub mod Lines
