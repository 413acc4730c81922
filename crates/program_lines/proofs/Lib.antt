pub mod BlockLines
