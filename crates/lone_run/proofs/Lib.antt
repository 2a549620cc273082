pub mod Tops
pub mod Forcing
pub mod Defining
pub mod Lines
pub mod Running
