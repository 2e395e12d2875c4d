pub mod Slip
pub mod SlipLaws
pub mod Internal
