pub mod Covers
pub mod Listed
pub mod Naming
pub mod Parting
