pub mod Drafts
pub mod Finishes
pub mod FirstLines
pub mod Messages
pub mod Reading
