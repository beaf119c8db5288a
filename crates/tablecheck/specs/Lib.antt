pub mod Complaints
pub mod Lines
