pub mod Running
pub mod Stages
pub mod Writing
