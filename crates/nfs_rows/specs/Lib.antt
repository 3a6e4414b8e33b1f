-- What contracts say of rows: finding, adding, removing, and lending.
pub mod Rows
pub mod Places
pub mod Lends
pub mod NameHash
