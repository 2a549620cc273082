pub mod Words
pub mod Left
pub mod Arguments
pub mod Leading
