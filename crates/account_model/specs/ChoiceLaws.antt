-- The laws of chosen IDs and ranges that other crates rely on.
use Rattle.std.specs.Prelude.{◌≡◌, ◌↔◌, ℕ, ◌<◌, List, Option}
use Rattle.account_model.specs.declared.records.SubidRecord.{SubidRecord}
use Rattle.account_model.specs.declared.settings.Kind.{Kind}
use Rattle.account_model.specs.Ids.{IsChosenId, chosen_id}
use Rattle.account_model.specs.FreeRange.{IsFreeRange, free_range}

-- there is one choice of an ID, and `chosen_id` computes it
abbrev pub IdsAreChosen : Type 0
IdsAreChosen = (kind : Kind) (range : Option (ℕ × ℕ)) (used : List ℕ) (choice : Option ℕ)
    → IsChosenId kind range used choice ↔ (chosen_id kind range used ≡ choice)

-- there is one free range for a count of 1 or more, and `free_range` computes its start
abbrev pub RangesAreFound : Type 0
RangesAreFound = (low high count : ℕ) (records : List SubidRecord) (start : Option ℕ) → 0 < count
    → IsFreeRange low high count records start ↔ (free_range low high count records ≡ start)
