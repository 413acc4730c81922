pub mod Agreement
pub mod Votes
pub mod Correction
pub mod FlippingRule
