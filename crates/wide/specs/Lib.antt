pub mod Value
pub mod Divided
pub mod Leading
pub mod LongDivision
