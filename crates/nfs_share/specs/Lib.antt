-- What contracts say of opens, share reservations and delegations.
pub mod Modes
pub mod Share
pub mod Shares
pub mod Opens
pub mod Delegations
pub mod AllOpens
pub mod OpenFound
pub mod OpenNodes
pub mod Laws
pub mod ShareError
pub mod ShareCounts
pub mod Tally
pub mod KeptOpens
pub mod KeptDelegations
