pub mod Claims
pub mod Standing
pub mod Notes
pub mod Starting
pub mod Forced
