-- What the contracts of `majority_columns` cite.
pub mod ColumnVotes
