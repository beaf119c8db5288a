pub mod Found
pub mod Exchanges
pub mod Steps
