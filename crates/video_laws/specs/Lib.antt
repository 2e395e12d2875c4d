pub mod Region
pub mod Laws
