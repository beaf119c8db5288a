pub mod Kept
mod Simulated
mod Tries
