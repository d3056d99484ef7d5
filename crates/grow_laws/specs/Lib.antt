pub mod Moves
pub mod Held
