pub mod LedReason
pub mod NearestPlans
pub mod PlainRoots
