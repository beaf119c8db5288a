pub mod Laws
pub mod Equality
