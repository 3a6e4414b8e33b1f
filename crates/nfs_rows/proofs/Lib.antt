pub mod Each
pub mod Marks
pub mod Shown
pub mod Lending
pub mod Clearing
pub mod Callers
pub mod Leading
pub mod Starting
