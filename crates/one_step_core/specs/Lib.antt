-- What the contracts of `one_step_core` and `one_step` cite beside `majority_logic`.
pub mod Paper
pub mod Stepped
