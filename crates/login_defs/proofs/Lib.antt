pub mod WordLaws
pub mod DigitLaws
pub mod SettingLaws
pub mod SettingFaults
pub mod LineLaws
