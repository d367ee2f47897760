pub mod Layout
pub mod Children
pub mod Grounds
pub mod promises
