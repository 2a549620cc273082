pub mod Standing
pub mod Halts
pub mod Meanwhile
pub mod Asked
pub mod Begins
