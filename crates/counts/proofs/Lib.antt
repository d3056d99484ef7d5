pub mod Arrays
pub mod Once
pub mod Seen
