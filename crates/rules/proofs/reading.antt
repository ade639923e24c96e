pub mod OneRule
pub mod AllRules
