-- What the layers above and below promise each other; nobody has to believe it.
pub mod Session
pub mod CChain
pub mod State
pub mod Values
