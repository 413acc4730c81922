-- What the contracts say of an answer.
pub mod Paper
