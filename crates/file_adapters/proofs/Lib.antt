pub mod Creating
pub mod Files
pub mod Finishing
pub mod LastText
pub mod Sinking
pub mod Unwritten
pub mod Writing
