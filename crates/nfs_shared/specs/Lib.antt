-- What contracts say of the locked state, its seats and receipts, and the queue of recalls.
pub mod Deeds
pub mod Ends
pub mod Held
pub mod Naming
pub mod Passes
pub mod RecallOrder
pub mod Receipt
pub mod Receipts
pub mod Renewing
pub mod Roll
pub mod Seats
pub mod Sender
pub mod Sweeper
pub mod laws
