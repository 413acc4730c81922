pub mod RowCounts
pub mod Parts
pub mod Starts
pub mod Cursors
pub mod Filling
pub mod Columns
pub mod PlainIndex
pub mod Gaps
