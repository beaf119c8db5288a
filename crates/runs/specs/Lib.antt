pub mod Ends
pub mod Tries
pub mod Slices
pub mod Histories
pub mod Promise
pub mod Simp
