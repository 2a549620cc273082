pub mod AlikeTable
pub mod KeptStates
pub mod Limited
pub mod WellTable
