mod DayRows
mod IdRows
mod LineRows
mod RangeRows
mod SettingRows
mod TextRows
mod ValueRows
mod WordRows
