pub mod Integers
pub mod Polynomials
pub mod Ring
