pub mod Binding
pub mod Folding
pub mod Kept
pub mod Leading
