pub mod Proper
pub mod Basis
pub mod Calls
pub mod Evaluated
pub mod Alone
pub mod Named
