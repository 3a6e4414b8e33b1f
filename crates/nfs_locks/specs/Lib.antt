-- What contracts say of lock states, conflicting locks, and their places in memory.
pub mod Locks
pub mod StoredLocks
pub mod KeptLocks
pub mod AllLocks
pub mod LockFound
pub mod LockNodes
pub mod Report
pub mod ReportSeen
pub mod Laws
