pub mod Copies
pub mod Extrinsic
pub mod Ends
pub mod States
pub mod Runs
