pub mod Bracket
pub mod Finding
pub mod Stretch
