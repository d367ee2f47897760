pub mod Powers
pub mod ProductsFit
