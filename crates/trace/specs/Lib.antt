pub mod Cycle
pub mod List
pub mod Laws
