pub mod Looked
pub mod Reducing
pub mod Halves
pub mod Stages
pub mod Peeling
