pub mod LentVectors
pub mod Made
pub mod Pairs
pub mod Signed
pub mod Sizes
pub mod Steps
