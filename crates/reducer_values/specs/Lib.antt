pub mod Words
pub mod Layers
