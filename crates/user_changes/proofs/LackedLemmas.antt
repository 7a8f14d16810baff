-- Claims: one range on, those so far and those of the ranges left are still those of all, where the user
-- has the range (`held-on`) and where it is added (`lacked-on`). Way: by whether a line has it.
use Rattle.std.proofs.Common.{◌≡◌, ◌∙◌, ℕ, ◌+◌, ◌-◌, ◌<◌, ◌≤◌, Bool, true, false, List, [], ◌∷◌, ◌++◌, map, drop, length, get_or, sym, ap, arith}
use Rattle.std.specs.Prelude.{if◌then◌else◌}
use Rattle.std.proofs.lemmas.List.{append_assoc, drop_more}
use Rattle.acct_text.specs.Lines.{Line}
use Rattle.account_model.specs.Edits.{edited}
use Rattle.account_model.specs.Records.{subid_format}
use Rattle.account_model.specs.UsermodRanges as model
use Rattle.account_model.specs.UsermodRanges.{RangeOwner, add_range, has_range, new_ranges}
use Rattle.command_values.specs.Ranges.{ids_named}
use Rattle.command_values.specs.declared.id_range.IdRange.{IdRange}
use Rattle.subid_ranges.specs.RangeLines.{with_range}

module _ (owner : RangeOwner) (given : List IdRange) (place : ℕ) (ids : IdRange)
    (lines : List Line) (new all : List model.IdRange) (inside : place < length given)
    (is : ids ≡ get_or given place ids)
    (before : new ++ new_ranges owner (map ids_named (drop place given)) lines ≡ all) where
  -- the ranges behind the place
  abbrev behind : List model.IdRange
  behind = map ids_named (drop (place + 1) given)

  -- those left are the first and those behind it
  from : map ids_named (drop place given) ≡ ids_named ids ∷ behind
  from = ap (map ids_named)
      (drop_more given place ids inside ∙ ap (λ first. first ∷ drop (place + 1) given) (sym is))

  -- by whether a line has the first
  on-by :
      (held : Bool)
      → has_range owner (ids_named ids) lines ≡ held
      → new ++ (if held then new_ranges owner behind lines else ids_named ids
      ∷ new_ranges owner behind (edited subid_format lines (add_range owner (ids_named ids)))) ≡ all
  on-by held has =
      ap (λ (held : Bool). new ++ (if held then new_ranges owner behind lines else ids_named ids
      ∷ new_ranges owner behind (edited subid_format lines (add_range owner (ids_named ids)))))
      (sym has)
      ∙ ap (λ ranges. new ++ new_ranges owner ranges lines) (sym from)
      ∙ before

  -- the user has it
  pub held-on :
      has_range owner (ids_named ids) lines ≡ true → new ++ new_ranges owner behind lines ≡ all
  held-on has = on-by true has

  -- it is added
  pub lacked-on :
      (more : List Line) (last : List model.IdRange)
      → has_range owner (ids_named ids) lines ≡ false
      → more ≡ with_range owner.new_name ids.first (ids.last - ids.first + 1) lines
      → last ≡ new ++ ids_named ids ∷ []
      → last ++ new_ranges owner behind more ≡ all
  lacked-on more last has added ends =
      let order : ids.first ≤ ids.last = ids.ordered in
      let count : ids.last - ids.first + 1 ≡ ids.last + 1 - ids.first = omega arith in
      ap (λ last. last ++ new_ranges owner behind more) ends
      ∙ append_assoc new (ids_named ids ∷ []) (new_ranges owner behind more)
      ∙ ap (λ lines. new ++ ids_named ids ∷ new_ranges owner behind lines)
      (added ∙ ap (λ count. with_range owner.new_name ids.first count lines) count)
      ∙ on-by false has
