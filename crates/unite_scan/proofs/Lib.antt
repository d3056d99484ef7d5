pub mod Looked
pub mod Scanning
