pub mod Ruled
pub mod OneMap
