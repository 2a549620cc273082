pub mod Keeps
pub mod Ringing
pub mod Weighing
