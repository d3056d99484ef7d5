pub mod Hands
pub mod Identical
pub mod Returned
