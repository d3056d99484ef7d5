-- Theorems about lists, rows, tests, productions and what a call writes.
pub mod Tests
pub mod Every
pub mod Members
pub mod Productions
pub mod RowsRise
pub mod Find
pub mod RowNumbers
pub mod Cut
pub mod Writing
pub mod Refusals
