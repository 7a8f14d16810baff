pub mod OptionLemmas
pub mod ListLemmas
pub mod SettingLemmas
pub mod RowLemmas
pub mod DayLemmas
pub mod RangePieces
