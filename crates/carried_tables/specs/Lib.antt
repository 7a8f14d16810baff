pub mod RangeNumbers
pub mod Changes
pub mod KeptIds
pub mod RangeRemovals
pub mod Scripts
