pub mod Sequences
pub mod Fits
pub mod Moves
