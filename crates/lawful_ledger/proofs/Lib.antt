pub mod Ends
pub mod Shallow
pub mod Names
