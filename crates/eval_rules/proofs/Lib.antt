pub mod Lifting
pub mod Words
pub mod Terms
