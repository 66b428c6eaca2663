pub mod First
pub mod OneAnswer
