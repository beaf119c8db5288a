pub mod Tries
pub mod Slices
pub mod Histories
pub mod Courses
pub mod Fates
pub mod Keeping
pub mod Promise
pub mod Onward
