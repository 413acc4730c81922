-- What a reader must believe: what the call says and leaves.
pub mod Call
