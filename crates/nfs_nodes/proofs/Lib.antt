pub mod Callers
mod Listed
