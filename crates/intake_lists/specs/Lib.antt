pub mod Call
pub mod Held
pub mod Lends
pub mod Answered
pub mod Split
