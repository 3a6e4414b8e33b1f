pub mod Earning
pub mod Going
pub mod Keeping
pub mod Overlooking
pub mod Reasons
pub mod Replies
pub mod Stepping
pub mod Turns
