-- What the layers above and below promise each other; nobody has to believe it.
pub mod Lanes
pub mod Late
pub mod Masks
