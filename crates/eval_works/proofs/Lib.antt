pub mod Leading
pub mod Before
pub mod Meanwhile
pub mod Starting
