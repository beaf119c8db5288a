pub mod Requests
pub mod Troubles
