-- Claim: what is known of the ranges in front is known of one more once the line behind them is
-- noted (`front-more`), and of all behind the last line (`front-all`). Way: the range of the line
-- goes from those left to those in front.
use Rattle.std.proofs.Common.{◌≡◌, ◌∙◌, List, [], ◌∷◌, ◌++◌, append-nil, refl, sym, ap, subst}
use Rattle.std.specs.Prelude.{Option, None, Some}
use Rattle.std.specs.List.{cons_option}
use Rattle.std.proofs.lemmas.List.{append_assoc}
use Rattle.acct_text.specs.Lines.{Line}
use Rattle.account_model.specs.declared.records.SubidRecord.{SubidRecord}
use Rattle.account_model.specs.Records.{subid_format}
use Rattle.subid_ranges.specs.Gathered.{GathersMore}
use Rattle.subid_ranges.specs.RangeLines.{ranges_of}

-- what is known is that of some ranges, and these with those left are all
pub record IsOfFront {G : Type 0} (is_of : List SubidRecord → G → Type 0)
    (all left : List SubidRecord) (known : G) : Type 0 where
  pub front : List SubidRecord
  pub is : is_of front known
  pub whole : front ++ left ≡ all

-- the range that a line is, if it is one, in front of others
in-front :
    (found : Option SubidRecord) (rest : List SubidRecord)
    → cons_option found [] ++ rest ≡ cons_option found rest
in-front None rest = refl
in-front (Some r) rest = refl

module _ {G : Type 0} (is_of : List SubidRecord → G → Type 0) (all : List SubidRecord) where
  -- it goes from those left to those in front
  pub front-more :
      (line : Line) (left rest : List Line) (old new : G)
      → left ≡ line ∷ rest
      → GathersMore is_of (cons_option (subid_format.read line.text) []) old new
      → IsOfFront is_of all (ranges_of left) old
      → IsOfFront is_of all (ranges_of rest) new
  front-more line left rest old new next goes_on before =
      let found = subid_format.read line.text in
      record {
        front = before.front ++ cons_option found [];
        is = goes_on before.front before.is;
        whole =
            append_assoc before.front (cons_option found []) (ranges_of rest)
            ∙ ap (λ left. before.front ++ left)
            (in-front found (ranges_of rest) ∙ sym (ap ranges_of next))
            ∙ before.whole;
      }

  -- behind the last line all are in front
  pub front-all :
      (left : List Line) (known : G)
      → left ≡ []
      → IsOfFront is_of all (ranges_of left) known
      → is_of all known
  front-all left known none before =
      subst (λ ranges. is_of ranges known)
      (sym (append-nil before.front)
      ∙ ap (λ left. before.front ++ ranges_of left) (sym none)
      ∙ before.whole)
      before.is
