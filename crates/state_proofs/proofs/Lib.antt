pub mod Joined
pub mod Rooms
