pub mod Seqs
pub mod Fitting
