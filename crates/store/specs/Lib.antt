pub mod Covers
pub mod Known
pub mod Sides
