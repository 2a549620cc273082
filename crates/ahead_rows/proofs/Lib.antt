pub mod AlikeAhead
pub mod WellAhead
