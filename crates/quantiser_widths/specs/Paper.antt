-- What a reader must believe: stored levels of eight bits brought over to sixteen, and taken back.
pub mod Widths
pub mod Claims
