pub mod Regions
pub mod Places
pub mod Frames
