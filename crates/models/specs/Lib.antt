pub mod Layout
pub mod Grounds
pub mod promises
