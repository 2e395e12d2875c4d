pub mod Figures
pub mod Stores
pub mod Noninterference
