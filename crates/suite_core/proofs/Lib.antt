mod ApartLemmas
mod DecidingLemmas
mod TopLemmas
mod UntouchedLemmas
