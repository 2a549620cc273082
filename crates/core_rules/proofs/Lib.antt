pub mod Openings
pub mod Compositions
