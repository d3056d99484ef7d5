pub mod Walking
pub mod Stretches
pub mod Identical
