pub mod Index
pub mod States
pub mod Faces
pub mod Tables
