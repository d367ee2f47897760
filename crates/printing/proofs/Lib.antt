pub mod Claims
pub mod LineOfVerdict
pub mod LineAfterCall
pub mod CutToShown
pub mod Offered
