pub mod Left
pub mod Closing
