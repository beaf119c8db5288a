pub mod Layouts
pub mod Loading
pub mod Questions
pub mod Stacks
pub mod Surveys
pub mod Texts
pub mod WellFormed
