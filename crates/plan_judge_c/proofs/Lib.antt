pub mod Claims
pub mod Offered
