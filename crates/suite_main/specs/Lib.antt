pub mod Help
pub mod HelpTexts
pub mod Input
pub mod OpenLine
