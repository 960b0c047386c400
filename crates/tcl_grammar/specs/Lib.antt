pub mod CommandRules
