pub mod Numbers
pub mod Classes
pub mod Marks
pub mod Reach
