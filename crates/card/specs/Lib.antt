pub mod Card
pub mod Laws
