-- What a reader must believe: the definition of the index, and its plain reading.
pub mod Index
pub mod PlainIndex
