pub mod Growing
pub mod Quieting
pub mod Stepping
pub mod Turning
pub mod Viewing
pub mod Sent
