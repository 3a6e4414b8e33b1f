-- What contracts say of lease tables and sweeps.
pub mod BookEvent
pub mod BookOf
pub mod PlainBook
pub mod PlainLaws
pub mod Renewals
pub mod Sweeps
pub mod Visit
pub mod laws
