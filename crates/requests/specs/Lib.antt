pub mod Refusals
pub mod First
pub mod Conditions
pub mod Requests
pub mod OneAnswer
