mod Lending
pub mod Works
