pub mod View
pub mod Said
pub mod promises
