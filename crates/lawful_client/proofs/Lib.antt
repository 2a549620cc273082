pub mod Starting
pub mod Walks
pub mod Steps
