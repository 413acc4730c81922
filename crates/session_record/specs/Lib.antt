-- What the contracts of `session_record` cite.
pub mod Paper
