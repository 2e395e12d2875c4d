pub mod Places
pub mod Answer
pub mod Laws
pub mod Internal
