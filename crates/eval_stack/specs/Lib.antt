pub mod Stack
pub mod Turned
pub mod Came
pub mod Evaluating
