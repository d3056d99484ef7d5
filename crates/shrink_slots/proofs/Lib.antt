pub mod Walked
pub mod Slotted
