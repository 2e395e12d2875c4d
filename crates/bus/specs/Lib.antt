pub mod Latch
pub mod Place
pub mod Cycle
pub mod Accesses
pub mod Laws
