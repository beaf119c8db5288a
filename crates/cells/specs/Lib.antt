pub mod Cells
pub mod Faults
pub mod Reading
pub mod Putting
pub mod Claims
pub mod Meets
