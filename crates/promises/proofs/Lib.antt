pub mod Demanded
pub mod Identical
pub mod Untouched
