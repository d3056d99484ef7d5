pub mod Counts
pub mod Minus
pub mod Windows
pub mod Batched
