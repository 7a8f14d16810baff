-- Claim: the records of lines, with that of the next line, are those up to it (`records-more`), and
-- they are no more than the lines (`records-few`). Way: line by line.
use Rattle.std.proofs.Common.{◌≡◌, ◌∙◌, ◌≤◌, List, [], ◌∷◌, ◌++◌, append_assoc, length, refl, sym, ap, arith}
use Rattle.std.specs.Prelude.{Option, Some, None, option_to_list}
use Rattle.std.specs.List.{cons_option}
use Rattle.std.proofs.lemmas.List.Elements.{filter_map-append}
use Rattle.acct_text.specs.Lines.{Line}
use Rattle.account_model.specs.Format.{Format, records_of}

-- the lines that are taken, in front of those that are left
pub record HaveTaken (all left : List Line) : Type 0 where
  pub done : List Line
  pub joined : done ++ left ≡ all

-- with the next line among them
abbrev pub with_next :
    (all left : List Line) (line : Line) (rest : List Line)
    → HaveTaken all left
    → left ≡ line ∷ rest
    → HaveTaken all rest
with_next all left line rest taken next = record {
  done = taken.done ++ line ∷ [];
  joined = append_assoc taken.done (line ∷ []) rest
      ∙ ap (λ left. taken.done ++ left) (sym next)
      ∙ taken.joined;
}

-- a record alone
cons-alone : {R : Type 0} (kept : Option R) → cons_option kept [] ≡ option_to_list kept
cons-alone None = refl
cons-alone (Some r) = refl

-- with a record, if there is one, they are no more than with a line
cons-few :
    {R : Type 0} (kept : Option R) (rest : List R) (lines : List Line) (line : Line)
    → length rest ≤ length lines
    → length (cons_option kept rest) ≤ length (line ∷ lines)
cons-few None rest lines line few = omega (arith, few)
cons-few (Some r) rest lines line few = omega (arith, few)

module _ {R : Type 0} (format : Format R) where
  -- the records with that of one line more
  pub records-more :
      (done : List Line) (line : Line)
      → records_of format (done ++ line ∷ [])
      ≡ records_of format done ++ option_to_list (format.read line.text)
  records-more done line =
      filter_map-append (λ line. format.read line.text) done (line ∷ [])
      ∙ ap (λ back. records_of format done ++ back) (cons-alone (format.read line.text))

  -- no more records than lines
  pub records-few : (lines : List Line) → length (records_of format lines) ≤ length lines
  records-few [] = omega arith
  records-few (line ∷ rest) =
      cons-few (format.read line.text) (records_of format rest) rest line (records-few rest)

  -- those of all lines are those up to a line, its own and those behind
  pub records-around :
      (all left rest : List Line) (line : Line) (taken : HaveTaken all left)
      → left ≡ line ∷ rest
      → records_of format all
      ≡ records_of format taken.done
      ++ cons_option (format.read line.text) (records_of format rest)
  records-around all left rest line taken next =
      ap (records_of format)
      (sym taken.joined ∙ ap (λ left. taken.done ++ left) next)
      ∙ filter_map-append (λ line. format.read line.text) taken.done (line ∷ rest)
