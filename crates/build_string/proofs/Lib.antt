pub mod Entered
pub mod Walked
