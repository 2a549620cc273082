pub mod Parts
pub mod Frames
pub mod Leads
pub mod Weights
pub mod Steps
