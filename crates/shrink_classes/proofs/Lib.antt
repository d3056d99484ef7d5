pub mod Settling
pub mod Pass
pub mod Marking
