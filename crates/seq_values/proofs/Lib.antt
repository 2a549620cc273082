pub mod Rolls
pub mod DepthLemmas
pub mod PartLemmas
pub mod LineLemmas
pub mod WellFormedLemmas
