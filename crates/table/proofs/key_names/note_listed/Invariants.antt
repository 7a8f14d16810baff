use Rattle.std.proofs.Common.{ℕ, List, length}
use Rattle.std.specs.Prelude.{Option}
use Rattle.acct_text.specs.Pieces.{cut_at}
use Rattle.account_model.specs.Text.{comma, nonempty}
use Rattle.account_model.specs.Records.{read_names}
use Rattle.table.specs.Keys.{name_keys}
use Rattle.acct_tables.specs.KeyPlaces.{NotesOf, told_places}
use Rattle.table.proofs.key_names.note_listed.Given as goal

-- once the names of the rest are noted, all are
abbrev pub invariant-names : goal.invariant-names
invariant-names l =
    (after : ℕ → Option (List ℕ))
    → NotesOf (name_keys (nonempty (cut_at comma l.rest))) l.spot (told_places l.index) after
    → NotesOf (name_keys (read_names l.text)) l.spot (told_places l.fn.index) after

abbrev pub decreases-names : goal.decreases-names
decreases-names l = length l.rest
