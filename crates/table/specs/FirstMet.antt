-- What is known of the first record that some edits touch among several of its name, so that others needn't be
-- asked about (passwd(5), shadow(5), group(5), gshadow(5), subuid(5), subgid(5)).
use Rattle.std.specs.Prelude.{◌≡◌, ◌⊎◌, ℕ, true, List, [], ◌∷◌, Option, Some, IfSome, MatchOption}
use Rattle.account_model.specs.Edits as model
use Rattle.account_model.specs.Edits.Edit.{Become}
use Rattle.account_model.specs.Format.{Format}
use Rattle.line_edits.specs.declared.edit.Edit.{Edit}
use Rattle.acct_tables.specs.declared.cell.Cell.{Cell}
use Rattle.acct_tables.specs.KeyPlaces.{has_key}
use Rattle.table.specs.Keys.{Needs}
use Rattle.table.specs.LastEdits.{HoldsOfLast, IsOneOf}
use Rattle.table.specs.Met.{earlier, first_in, has_met}
use Rattle.table.specs.TableCells.{HoldsThere}
use Rattle.table.specs.declared.first_met.FirstMet.{FirstMet}

-- the edit alone meets no record in front of this place
abbrev pub MeetsNoEarlier :
    {R : Type 0} → Format R → List Cell → Option ℕ → model.Edit R → Type 0
MeetsNoEarlier format cells place edit =
    earlier place (first_in (has_met format (edit ∷ []) cells) cells) ≡ place

-- no record with the key stands in front of this place
abbrev pub StandsNoEarlier :
    {R : Type 0} → Format R → (R → List ℕ) → List Cell → Option ℕ → ℕ → Type 0
StandsNoEarlier format keys_of cells first key = HoldsThere format
    (λ place r. has_key key (keys_of r) ≡ true → earlier first (Some place) ≡ first) cells

-- the edit leaves each record without the key
abbrev pub NeedsKey : {R : Type 0} → (R → List ℕ) → model.Edit R → ℕ → Type 0
NeedsKey keys_of (Become f) key = Needs keys_of f key
NeedsKey keys_of edit key = ⊥

-- the last edits meet no record in front of the place, and none with the key stands there
pub record AreAsked {R C : Type 0} (format : Format R) (keys_of : R → List ℕ)
    (becomes : C → R → List R) (cells : List Cell) (met : FirstMet (Edit R C)) : Type 0 where
  pub by_last : HoldsOfLast becomes (MeetsNoEarlier format cells met.place) met.last
  pub by_key : IfSome met.key (StandsNoEarlier format keys_of cells met.place)

-- the edit is one of the last, or needs the key
abbrev pub IsSettled :
    {R C : Type 0} → (R → List ℕ) → (C → R → List R) → model.Edit R → FirstMet (Edit R C) → Type 0
IsSettled keys_of becomes edit met =
    IsOneOf becomes edit met.last ⊎ MatchOption met.key ⊥ (NeedsKey keys_of edit)
