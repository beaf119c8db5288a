pub mod Blanks
pub mod FieldSteps
pub mod Integers
pub mod Numbers
pub mod Places
pub mod Reading
pub mod Spans
