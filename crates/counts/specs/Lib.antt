pub mod Arrays
pub mod Counts
