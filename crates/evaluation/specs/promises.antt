-- What the layers above and below promise each other; nobody has to believe it.
pub mod Known
pub mod Learnt
pub mod Path
pub mod Reached
pub mod Worth
