pub mod Bits
pub mod Image
pub mod Sizes
pub mod Refusal
pub mod Controller
pub mod Lists
pub mod Numbers
