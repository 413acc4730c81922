-- What the contracts of `quantiser_guess` cite.
pub mod Guess
pub mod Placed
