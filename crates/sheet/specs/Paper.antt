-- What a reader must believe: document 02's definitions and the statements of the theorems.
pub mod Sheet
pub mod PlainSheet
pub mod SheetMatrix
pub mod MatrixSheet
pub mod Calls
pub mod Claims
pub mod Examples
