pub mod Holding
pub mod Works
pub mod Keeping
pub mod Ending
pub mod Asking
pub mod Making
pub mod Noting
