-- The last edits that were looked at.
use Rattle.std.specs.Prelude.{◌≡◌, ◌⊎◌, List, IfSome, MatchOption}
use Rattle.account_model.specs.Edits as model
use Rattle.line_edits.specs.SeenEdits.{seen_edit}
use Rattle.line_edits.specs.declared.edit.Edit.{Edit}
use Rattle.table.specs.declared.last_edits.LastEdits.{LastEdits}

-- one of them is the same as the edit
abbrev pub IsOneOf :
    {R C : Type 0} → (C → R → List R) → model.Edit R → LastEdits (Edit R C) → Type 0
IsOneOf becomes edit edits =
    MatchOption edits.last ⊥ (λ last. seen_edit becomes last.now ≡ edit)
    ⊎ MatchOption edits.older ⊥ (λ older. seen_edit becomes older.now ≡ edit)

-- P holds of each of them
pub record HoldsOfLast {R C : Type 0} (becomes : C → R → List R) (P : model.Edit R → Type 0)
    (edits : LastEdits (Edit R C)) : Type 0 where
  pub last : IfSome edits.last (λ last. P (seen_edit becomes last.now))
  pub older : IfSome edits.older (λ older. P (seen_edit becomes older.now))
