-- What the contracts of `quantiser` cite, and document 01's examples.
pub mod Paper
pub mod Examples
pub mod Buffers
