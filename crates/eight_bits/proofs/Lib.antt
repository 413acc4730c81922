pub mod Widths
pub mod SettingWidths
pub mod Calls
pub mod Face
pub mod FaceBefore
pub mod TakenBack
pub mod WholeBuffers
pub mod EightBits
