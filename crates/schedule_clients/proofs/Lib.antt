mod LawfulLemmas
mod DeathLemmas
