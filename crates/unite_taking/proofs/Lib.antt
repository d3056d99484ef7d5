pub mod Steps
pub mod Ongoing
pub mod Rowed
pub mod Passing
