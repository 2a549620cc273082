pub mod Depth
pub mod Layers
pub mod Model
pub mod Plain
pub mod Sight
pub mod Text
pub mod WellFormed
pub mod WellFormedTerms
