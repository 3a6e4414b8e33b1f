pub mod Lists
pub mod Comes
pub mod Generations
pub mod Books
pub mod RevokedDelegations
pub mod ForgottenOwners
