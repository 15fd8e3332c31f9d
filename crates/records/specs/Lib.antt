pub mod Contents
pub mod Rows
pub mod Columns
pub mod Records
