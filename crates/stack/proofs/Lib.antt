mod Drops
mod Laid
pub mod Room
