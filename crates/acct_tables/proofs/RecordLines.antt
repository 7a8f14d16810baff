-- Claim: what is found and counted among the records is found and counted line by line (`met-by`,
-- `passed-by`, `counted-by`, `counted-next`).
use Rattle.std.proofs.Common.{◌≡◌, ℕ, ◌+◌, Bool, true, false, List, ◌∷◌, refl, sym, ◌∙◌, ap, zero-add}
use Rattle.std.specs.Prelude.{Option, Some, None, is_some, if◌then◌else◌}
use Rattle.std.specs.List.{cons_option}
use Rattle.std.proofs.lemmas.List.Sums.{sum_by-cons}
use Rattle.acct_text.specs.Lines.{Line}
use Rattle.account_model.specs.Format.{Format, records_of, is_named, find_named, count_named}
use Rattle.acct_tables.specs.TableLines.{text_is_named}

module _ {R : Type 0} (format : Format R) (name : List ℕ) where
  -- a record of the name is there
  pub named-some :
      (kept : Option R)
      → (elim kept [ None ↦ false | Some r ↦ is_named format name r ]) ≡ true
      → is_some kept ≡ true
  named-some None named = absurd cc
  named-some (Some r) named = refl

  -- a record of the name is the first that is found
  pub met-by :
      (kept : Option R) (rest : List R)
      → (elim kept [ None ↦ false | Some r ↦ is_named format name r ]) ≡ true
      → find_named format name (cons_option kept rest) ≡ kept
  met-by None rest named = absurd cc
  met-by (Some r) rest named = rw named refl

  -- a record of another name isn't found, and other text neither
  pub passed-by :
      (kept : Option R) (rest : List R)
      → (elim kept [ None ↦ false | Some r ↦ is_named format name r ]) ≡ false
      → find_named format name (cons_option kept rest) ≡ find_named format name rest
  passed-by None rest other = refl
  passed-by (Some r) rest other = rw other refl

  -- one line, by what it reads as
  pub counted-by :
      (kept : Option R) (rest : List R)
      → count_named format name (cons_option kept rest)
      ≡ (if (elim kept [ None ↦ false | Some r ↦ is_named format name r ]) then 1 else 0)
      + count_named format name rest
  counted-by None rest = sym (zero-add (count_named format name rest))
  counted-by (Some r) rest = sum_by-cons (λ x. if is_named format name x then 1 else 0) r rest

  -- a record of the name is one of those of the lines left, by whether there is one
  pub counted-next :
      (line : Line) (left rest : List Line) (named : Bool)
      → left ≡ line ∷ rest
      → text_is_named format name line.text ≡ named
      → count_named format name (records_of format left)
      ≡ (if named then 1 else 0) + count_named format name (records_of format rest)
  counted-next line left rest named is named_is =
      ap (λ lines. count_named format name (records_of format lines)) is
      ∙ counted-by (format.read line.text) (records_of format rest)
      ∙ ap (λ test. (if test then 1 else 0) + count_named format name (records_of format rest))
      named_is
