-- What contracts say of a run's end: its journal's file, its fault, and the limits that it reached.
pub mod Once
pub mod Audit
pub mod Pieces
pub mod Faults
pub mod Backlog
pub mod ReachedLimits
