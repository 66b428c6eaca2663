pub mod Vectors
pub mod Lent
pub mod Directions
pub mod Squares
pub mod Theorems
pub mod Examples
