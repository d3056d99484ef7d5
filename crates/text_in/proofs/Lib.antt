pub mod Parted
pub mod Tallied
pub mod Climbs
pub mod Filled
pub mod In
pub mod Fours
