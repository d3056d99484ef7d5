pub mod Put
pub mod Kept
