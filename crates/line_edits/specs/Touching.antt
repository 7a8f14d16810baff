-- Which edit touches a record, and the first record that is touched among several of its name (passwd(5), shadow(5),
-- group(5), gshadow(5)).
use Rattle.std.specs.Prelude.{ℕ, Bool, false, ◌&&◌, List, [], ◌∷◌, Some, None}
use Rattle.account_model.specs.Format.{Format}
use Rattle.account_model.specs.Edits.{Edit, touches, is_multiple}

-- whether the edit touches a record of the old table, were it the only one
abbrev pub touches_alone : {R : Type 0} → Format R → Edit R → R → Bool
touches_alone format edit r = touches format (edit ∷ []) r

-- whether it touches the record that the text is; other text is never touched
abbrev pub touches_text : {R : Type 0} → Format R → Edit R → List ℕ → Bool
touches_text format edit text =
    elim (format.read text) [ None ↦ false | Some r ↦ touches_alone format edit r ]

-- whether the edits touch the record, and its name is multiple in the whole table
abbrev pub is_met : {R : Type 0} → Format R → List (Edit R) → List R → R → Bool
is_met format edits whole r = touches format edits r && is_multiple format whole r
