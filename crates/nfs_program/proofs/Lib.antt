pub mod Putting
pub mod Backlogs
