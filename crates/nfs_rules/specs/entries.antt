-- The rules of the entries that are no calls, a file each.
pub mod Expire
pub mod Path
pub mod Forget
pub mod Revoke
