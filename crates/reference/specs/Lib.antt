pub mod Figures
pub mod Noninterference
pub mod Traces
