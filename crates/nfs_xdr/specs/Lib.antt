-- Operations and their results as XDR forms, by one list of operations.
pub mod Opnum
pub mod Op
pub mod OpResult
pub mod Short
pub mod ArgOp
pub mod Compound
pub mod Names
