pub mod CalendarLaws
pub mod DatePieces
pub mod DateTexts
pub mod WrittenDays
