pub mod Ended
pub mod Told
pub mod Small
