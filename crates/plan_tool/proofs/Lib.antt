pub mod MappedLists
pub mod LinePlaceLemmas
pub mod DiffWalk
pub mod HunkLemmas
pub mod HunkWalk
pub mod RecordLemmas
