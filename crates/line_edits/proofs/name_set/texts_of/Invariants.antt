use Rattle.std.proofs.Common.{◌≡◌, ℕ, List, take}
use Rattle.std.specs.Vec.{vec_items}
use Rattle.account_model.specs.Text.{is_listed}
use Rattle.line_edits.specs.NameSets.{has_text}
use Rattle.line_edits.proofs.name_set.texts_of.Given as goal

-- the texts are those of the names so far
abbrev pub invariant-names : goal.invariant-names
invariant-names l =
    (name : List ℕ) → has_text l.texts vec_items name ≡ is_listed name (take l.name-index l.names)
