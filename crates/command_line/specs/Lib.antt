pub mod Settings
pub mod Asking
pub mod Line
pub mod Reading
