pub mod Walks
pub mod Equal
pub mod Calls
pub mod Terms
pub mod Table
pub mod Laws
