pub mod Into
pub mod Beyond
