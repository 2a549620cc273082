pub mod Meeting
pub mod Walking
pub mod Looking
pub mod Lines
pub mod Defining
