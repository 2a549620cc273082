pub mod ArgumentLists
pub mod Taking
pub mod Pendings
pub mod Reductions
pub mod Foldings
pub mod FoldTerms
pub mod WordTurns
