-- What the contracts of `program_turns` cite.
pub mod Turns
