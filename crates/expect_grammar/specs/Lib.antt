pub mod ArgumentRules
pub mod FlagRules
pub mod ModeRules
pub mod PatternTexts
