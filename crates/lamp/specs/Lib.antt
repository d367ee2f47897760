pub mod Said
pub mod promises
