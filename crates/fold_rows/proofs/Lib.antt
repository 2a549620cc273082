pub mod AlikeTable
pub mod Halves
pub mod WellFolds
