-- What contracts say of the bytes that a lock owner holds.
pub mod Bytes
pub mod Modes
pub mod Runs
pub mod RoomyRanges
pub mod Questions
pub mod RangesError
pub mod Merged
pub mod Room
pub mod Splices
pub mod Covering
