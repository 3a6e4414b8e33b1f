-- What the contracts of these tests' links and devices speak of.
pub mod Board
