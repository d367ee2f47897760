-- What the layers above and below promise each other; nobody has to believe it.
pub mod Nodes
pub mod Replaced
pub mod Shared
pub mod Marks
