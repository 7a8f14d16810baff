pub mod RangeLines
pub mod Owned
pub mod Numbers
pub mod Taken
pub mod Refusals
pub mod Gathered
pub mod RangeNumbers
