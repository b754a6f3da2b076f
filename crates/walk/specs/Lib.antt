pub mod PrunedPass
pub mod Walk
