pub mod Seeing
pub mod Listing
pub mod Limits
pub mod Spans
pub mod Taking
pub mod Transport
pub mod Standing
