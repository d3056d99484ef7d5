pub mod Bare
pub mod Begins
pub mod Productions
pub mod Alike
pub mod Entered
