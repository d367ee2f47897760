pub mod ExtendedChoices
pub mod Runs
pub mod Ways
pub mod PlaceByDivision
pub mod WrittenBelow
pub mod SumFits
pub mod SumIsWeight
pub mod OutcomeSummed
