-- What the contracts of `matrix_index_replay` cite.
pub mod Replay
