-- rows
pub mod Find
pub mod Rising
pub mod Paint
pub mod Paths
pub mod Grown
pub mod Given
pub mod Tree
-- the checks
pub mod Counted
pub mod Checked
pub mod Fits
-- build
pub mod Words
pub mod Built
pub mod BuildSound
-- unite
pub mod Order
pub mod Took
pub mod Taken
pub mod Matching
pub mod Kept
pub mod United
pub mod UniteSound
-- calls
pub mod Accepted
pub mod Calls
-- states counted
pub mod Counting
pub mod States
pub mod AcceptingStates
-- string lists
pub mod ListTests
pub mod Strings
pub mod Tells
pub mod Beginnings
-- predict
pub mod Predicts
pub mod Defined
-- demand 3
pub mod Chained
pub mod Reordering
