pub mod series
