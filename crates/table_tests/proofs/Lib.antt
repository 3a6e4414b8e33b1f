pub mod Numbers
pub mod RowNumbers
