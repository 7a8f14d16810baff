-- Claim: the IDs of a table are gathered line by line (`ids-found`, `ids-end`). Way: the IDs so far, and
-- behind them those of the lines that are left, are all.
use Rattle.std.proofs.Common.{◌≡◌, ◌∙◌, ℕ, List, [], ◌∷◌, ◌++◌, append-nil, map, refl, sym, ap}
use Rattle.std.specs.Prelude.{Option, Some, None, option_map}
use Rattle.std.specs.List.{cons_option}
use Rattle.std.proofs.lemmas.List.{append_assoc}
use Rattle.acct_text.specs.Lines.{Line}
use Rattle.account_model.specs.Format.{Format, records_of}

-- what is told of the first of a list, where there is one, is the first of what is told
map-cons_option :
    {X Y : Type 0} (told : X → Y) (first : Option X) (rest : List X)
    → map told (cons_option first rest) ≡ cons_option (option_map told first) (map told rest)
map-cons_option told None rest = refl
map-cons_option told (Some x) rest = refl

-- the first of a list, where there is one, and then the rest
cons_option-first :
    {X : Type 0} (first : Option X) (rest : List X)
    → cons_option first [] ++ rest ≡ cons_option first rest
cons_option-first None rest = refl
cons_option-first (Some x) rest = refl

module _ {R : Type 0} (format : Format R) (number : R → ℕ) (total : List ℕ) where
  -- the IDs so far, and behind them those of the lines left, are these in all
  abbrev pub Gathers : List ℕ → List Line → Type 0
  Gathers ids left = ids ++ map number (records_of format left) ≡ total

  -- the ID of the first line left, where it is a record, goes to those so far
  pub ids-found :
      (line : Line) (left rest : List Line) (old new : List ℕ)
      → left ≡ line ∷ rest
      → new ≡ old ++ cons_option (option_map number (format.read line.text)) []
      → Gathers old left
      → Gathers new rest
  ids-found line left rest old new is added gathers =
      let found = option_map number (format.read line.text) in
      let behind = map number (records_of format rest) in
      ap (λ ids. ids ++ behind) added
      ∙ append_assoc old (cons_option found []) behind
      ∙ ap (λ ids. old ++ ids)
      (cons_option-first found behind
      ∙ sym (map-cons_option number (format.read line.text) (records_of format rest))
      ∙ sym (ap (λ lines. map number (records_of format lines)) is))
      ∙ gathers

  -- behind the last line they are all
  pub ids-end : (ids : List ℕ) (left : List Line) → left ≡ [] → Gathers ids left → ids ≡ total
  ids-end ids left none gathers =
      sym (append-nil ids)
      ∙ sym (ap (λ lines. ids ++ map number (records_of format lines)) none)
      ∙ gathers
