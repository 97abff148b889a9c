pub mod Labels
pub mod Rising
pub mod Apart
pub mod KeyOrder
pub mod Finding
pub mod ByKey
