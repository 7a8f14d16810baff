-- The edits of a table as account_model has them: an edit as data stands for one of these (passwd(5), shadow(5),
-- group(5), gshadow(5), subuid(5), subgid(5)).
use Rattle.std.specs.Prelude.{List, [], ◌∷◌, map}
use Rattle.account_model.specs.Edits as model
use Rattle.line_edits.specs.declared.edit.Becoming.{Becoming}
use Rattle.line_edits.specs.declared.edit.Becoming.TheVariants.{Stays, Changes, Goes, Splits}
use Rattle.line_edits.specs.declared.edit.Edit.{Edit}
use Rattle.line_edits.specs.declared.edit.Edit.TheVariants.{Become, Add, AddMissing, Put}

-- the records that stand in place of a record of which this becomes
abbrev pub records_in : {R : Type 0} → R → Becoming R → List R
records_in r Stays = r ∷ []
records_in r (Changes s) = s ∷ []
records_in r Goes = []
records_in r (Splits s t) = s ∷ t ∷ []

-- the edit that stands for one of data, by what the changes make of records
abbrev pub seen_edit : {R C : Type 0} → (C → R → List R) → Edit R C → model.Edit R
seen_edit becomes (Become change) = model.Become (becomes change)
seen_edit becomes (Add r) = model.Add r
seen_edit becomes (AddMissing r) = model.AddMissing r
seen_edit becomes (Put r) = model.Put r

-- the edits of a table, in their order
abbrev pub seen_edits : {R C : Type 0} → (C → R → List R) → List (Edit R C) → List (model.Edit R)
seen_edits becomes edits = map (seen_edit becomes) edits
