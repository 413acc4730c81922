pub mod Sides
pub mod Approach
pub mod Ends
pub mod WrongBits
pub mod FlippingRule
