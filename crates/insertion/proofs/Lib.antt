pub mod Picks
pub mod Spans
pub mod PointsInto
pub mod Laws
