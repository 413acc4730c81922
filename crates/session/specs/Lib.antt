-- What the contracts of `session_opening`, `session_round` and the crates above them cite, and the theorems on stepping.
pub mod Paper
pub mod RoundParts
