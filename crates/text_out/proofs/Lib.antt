pub mod Digits
pub mod Written
pub mod Lined
pub mod Out
