pub mod Decimals
pub mod Declining
