pub mod Judged
pub mod OnePass
