pub mod Matches
pub mod Shown
pub mod Parens
pub mod Inlining
pub mod Regexps
pub mod Replacing
