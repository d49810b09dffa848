pub mod HalfLaws
pub mod RoomLists
pub mod Unique
