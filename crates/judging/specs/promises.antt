-- What the layers above and below promise each other; nobody has to believe it.
pub mod Announced
pub mod Asked
pub mod Conditions
pub mod Decided
pub mod Truth
pub mod Worths
pub mod Rows
