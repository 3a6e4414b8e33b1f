-- Proofs of what crates above need to know of lease tables and sweeps.
pub mod Agreeing
pub mod Counting
pub mod Following
pub mod Gaining
pub mod Visiting
