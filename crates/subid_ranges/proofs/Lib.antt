pub mod PlacedRanges
pub mod LeastStart
pub mod TakenLemmas
pub mod TellLemmas
pub mod FileLines
pub mod GatheredLemmas
pub mod OwnedLemmas
pub mod RangeNumbersLemmas
