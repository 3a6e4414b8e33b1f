-- What contracts say of a journal's file: its bytes, its laws, and an audit's outcome.
pub mod File
pub mod Exact
pub mod Journals
pub mod JournalLaws
pub mod Audits
