pub mod Growing
pub mod Known
pub mod Quieting
pub mod Turning
