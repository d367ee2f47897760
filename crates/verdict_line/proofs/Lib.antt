pub mod Decimal
pub mod PutInTurn
pub mod ExampleLines
pub mod LineIsChain
pub mod TextByLength
pub mod WhyNo
pub mod ExampleInputs
