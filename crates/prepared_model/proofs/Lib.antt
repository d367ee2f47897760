pub mod RowFilled
pub mod RowTold
pub mod RowsAreModel
pub mod ReadByPlace
pub mod PlacesInRange
pub mod UnusedWeighNothing
pub mod BitSums
