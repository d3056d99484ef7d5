pub mod Firsts
pub mod Somewhere
pub mod Splits
pub mod Hanging
pub mod Judging
pub mod Passes
