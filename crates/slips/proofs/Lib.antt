pub mod Integers
pub mod Slips
pub mod Best
pub mod SlipLaws
