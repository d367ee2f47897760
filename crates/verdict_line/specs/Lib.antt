pub mod Text
pub mod Line
pub mod Reasons
pub mod promises
