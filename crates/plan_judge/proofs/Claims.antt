-- What is claimed of the code, over the functions' own contracts. These files must be believed; their proofs stand beside this folder.
pub mod Ran
pub mod Demand1
pub mod Offered
pub mod ModelsWritten
pub mod Delivery
pub mod OneWord
