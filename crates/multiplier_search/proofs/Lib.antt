pub mod CornerLaws
pub mod HoldsPoint
pub mod Light
pub mod Trying
pub mod Turning
