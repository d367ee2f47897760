pub mod MarksPassedOn
pub mod ConeListed
