pub mod Reach
pub mod Views
pub mod Trees
pub mod Bounds
pub mod Unions
pub mod Says
pub mod Chain
pub mod Accepting
