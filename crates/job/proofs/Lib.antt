pub mod Fitting
pub mod Pieces
pub mod Soundness
