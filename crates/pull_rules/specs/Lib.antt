pub mod Words
pub mod Kept
pub mod Reducing
pub mod Through
pub mod Left
