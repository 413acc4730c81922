-- What a reader must believe: the calls where all places count, and what stays of blocks without an undecided sample.
pub mod Calls
pub mod Claims
