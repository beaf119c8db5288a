pub mod EachKind
pub mod Laws
pub mod Order
pub mod Passing
pub mod Spared
