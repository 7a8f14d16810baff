use Rattle.std.proofs.Common.{◌≡◌, ◌+◌, ◌<◌, ◌++◌, [], List, ℕ, length, drop, sym, subst}
use Rattle.memory_folder.proofs.StreamLemmas.{takes-front}
use Rattle.memory_folder.proofs.memory_streams.MemorySourceSource.take.Goals as goal

pub returns-in-Ok-clause-left : goal.returns-in-Ok-clause-left
returns-in-Ok-clause-left c =
    let self = c.args.self.now in
    let front = c.front-piece.result.now in
    subst
    (λ (piece : List ℕ).
    (drop self.taken self.text ≡ piece ++ drop (self.taken + length front) self.text)
    × (0 < c.args.room → piece ≡ [] → drop self.taken self.text ≡ []))
    (sym c.in-Ok.ensures)
    (takes-front self.text c.as_slice.result.now front self.taken c.args.room c.as_slice.ensures
    c.front-piece.ensures)
