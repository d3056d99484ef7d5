pub mod Totals
pub mod Checked
