pub mod Joints
pub mod FirstPiece
pub mod OneList
pub mod Rows
