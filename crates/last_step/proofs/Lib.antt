pub mod LaneByLane
pub mod LateMarks
pub mod LaneMeaning
