pub mod Integers
pub mod LearntInOrder
pub mod Trails
pub mod OperatorMeaning
pub mod LearnKnows
pub mod StepTaken
pub mod StepUndone
pub mod PathWorth
