-- What the layers above and below promise each other; nobody has to believe it.
pub mod Formed
pub mod Tables
pub mod Passes
pub mod Used
pub mod Operators
