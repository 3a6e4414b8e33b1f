-- Proofs of what crates above need to know of a connection's calls and writes.
pub mod Exchanges
pub mod Gaining
pub mod Writing
