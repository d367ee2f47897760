pub mod Number
pub mod promises
