pub mod EqualCalls
