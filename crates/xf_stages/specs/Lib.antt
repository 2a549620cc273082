pub mod Left
pub mod Opening
pub mod Parts
pub mod Reacting
pub mod Flowing
pub mod States
pub mod Reducers
pub mod Restoring
