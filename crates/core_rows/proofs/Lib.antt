pub mod AlikeCore
pub mod WellCore
