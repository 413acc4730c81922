-- What a reader must believe: what the call says and leaves, and what is promised of calls that take an index.
pub mod Call
pub mod Claims
