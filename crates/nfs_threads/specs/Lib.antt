-- What contracts say of a run's threads: workers, receipts, renewals, and callbacks.
pub mod Holding
pub mod Receipts
pub mod Worker
pub mod WorkerThread
pub mod Sockets
pub mod Uptimes
pub mod Links
pub mod Run
pub mod Renewals
pub mod Rooms
pub mod Parts
pub mod Calling
