pub mod Arithmetic
pub mod Table
pub mod Worked
pub mod Laws
