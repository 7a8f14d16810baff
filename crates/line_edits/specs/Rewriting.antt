-- The line of a record that becomes another one, told by its texts alone (group(5), gshadow(5)).
use Rattle.std.specs.Prelude.{◌≡◌, ℕ, List, [], ◌∷◌, Some}
use Rattle.account_model.specs.Format.{Format}
use Rattle.line_edits.specs.declared.edit.Rewritten.{Rewritten}

-- the line is a record of which f makes one other, and these are the canonical texts of both
pub record IsRewritten {R : Type 0} (format : Format R) (f : R → List R) (line : List ℕ)
    (texts : Rewritten) : Type 0 where
  pub old : R
  pub new : R
  pub reads : format.read line ≡ Some old
  pub becomes : f old ≡ new ∷ []
  pub kept_text : format.print old ≡ texts.kept
  pub new_text : format.print new ≡ texts.new
