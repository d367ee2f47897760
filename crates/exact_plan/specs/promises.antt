-- What the layers above and below promise each other; nobody has to believe it.
pub mod Listing
pub mod Sides
pub mod Room
pub mod Search
pub mod Last
pub mod Spread
pub mod Totals
