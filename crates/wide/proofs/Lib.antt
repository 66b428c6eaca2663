pub mod Bits
pub mod Parts
pub mod Products
