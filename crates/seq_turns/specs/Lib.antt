pub mod Seen
pub mod Turning
pub mod Making
pub mod Laws
pub mod Arguments
