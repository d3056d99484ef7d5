pub mod Decimal
pub mod Rewritten
pub mod Joined
pub mod Back
pub mod Reread
pub mod Forth
pub mod Trips
