-- What the layers above and below promise each other; nobody has to believe it.
pub mod Extension
pub mod Recursion
pub mod Total
pub mod Raised
pub mod Orders
pub mod Lamps
pub mod Paths
pub mod Follows
pub mod Refusal
pub mod MostChoices
