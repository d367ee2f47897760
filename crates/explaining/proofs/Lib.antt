pub mod Claims
pub mod TextOfExplanation
pub mod PreparedInput
pub mod Offered
