pub mod Numbers
pub mod Starts
pub mod Never
pub mod Forms
pub mod Formed
