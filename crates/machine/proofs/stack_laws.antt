pub mod SharedLaws
pub mod RoomLaws
