pub mod Writing
pub mod Emitting
