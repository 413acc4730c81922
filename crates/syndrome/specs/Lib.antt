-- What the contracts of `syndrome` and `failing_checks` cite.
pub mod Paper
pub mod Places
