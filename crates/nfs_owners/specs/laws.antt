-- Proofs of what crates above need to know of path marks.
pub mod Marks
