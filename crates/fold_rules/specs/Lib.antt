pub mod Words
pub mod Terms
pub mod Left
