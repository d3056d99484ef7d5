pub mod Lengths
pub mod Kept
pub mod Joined
pub mod NextList
pub mod Joining
pub mod Answering
pub mod Lends
pub mod Demand
