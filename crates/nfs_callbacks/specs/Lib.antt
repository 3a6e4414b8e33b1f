-- What contracts say of callbacks: the steps of a caller, its lines and connections, and that no recall is lost.
pub mod Accounts
pub mod Callers
pub mod Errands
pub mod Exchanges
pub mod Faults
pub mod Lines
pub mod Network
pub mod Source
pub mod Steps
