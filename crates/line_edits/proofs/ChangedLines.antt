-- Claim: a line that a change leaves, and one that is no record, become themselves (`left-line`,
-- `other-line`), and that of a record what becomes of the record (`record-line`, `same-line`). Way: by what
-- the line reads as.
use Rattle.std.proofs.Common.{◌≡◌, ℕ, Bool, true, false, List, [], ◌∷◌, refl, sym, ◌∙◌, ap, inl, inr, append-nil}
use Rattle.std.specs.Prelude.{bytes_eq, Option, Some, None, if◌then◌else◌}
use Rattle.std.proofs.lemmas.Bool.{cases_Bool, false_from_ne_true}
use Rattle.std.proofs.lemmas.Slice.Eq.{bytes_eq-Decides}
use Rattle.acct_text.specs.Lines.{Line, file_bytes, line_bytes}
use Rattle.account_model.specs.Format.{Format}
use Rattle.account_model.specs.Edits.{becomes, line_becomes}
use Rattle.account_model.specs.RecordEdits.{TellsSame}
use Rattle.account_model.specs.Written.{IsWritten}
use Rattle.line_edits.specs.Naming.{LeavesIt}

module _ {R : Type 0} (format : Format R) where
  -- a line of which the record becomes others
  becomes-read :
      (f : R → List R) (line : Line) (kept : Option R) (r : R)
      → kept ≡ Some r
      → (elim kept [ None ↦ line ∷ [] | Some s ↦ line_becomes format line s (f s) ])
      ≡ line_becomes format line r (f r)
  becomes-read f line None r is = absurd cc
  becomes-read f line (Some s) r is =
      let same : s ≡ r = cc in ap (λ t. line_becomes format line t (f t)) same

  -- a record that stays leaves its line
  pub stays :
      (line : Line) (r : R) (same : Bool)
      → same ≡ true
      → (if same then line ∷ [] else record line { text = format.print r } ∷ []) ≡ line ∷ []
  stays line r true is = refl
  stays line r false is = absurd cc

  -- records that lines hold are the same where they print as the same text
  pub same-printed :
      (old new : R)
      → TellsSame format
      → IsWritten format old
      → IsWritten format new
      → (text kept : List ℕ)
      → text ≡ format.print new
      → format.print old ≡ kept
      → format.same old new ≡ bytes_eq text kept
  same-printed old new tells old_written new_written text kept printed is =
      elim (cases_Bool (bytes_eq text kept)) [
        | inl equal ↦
            let texts : text ≡ kept = (bytes_eq-Decides text kept).0 equal in
            let found : Some old ≡ Some new =
            sym old_written.reads ∙ ap format.read (is ∙ sym texts ∙ printed) ∙ new_written.reads in
            let one : old ≡ new = cc in
            (tells old new).1 one ∙ sym equal
        | inr apart ↦
            false_from_ne_true (format.same old new) (λ same.
            let one : old ≡ new = (tells old new).0 same in
            let equal : bytes_eq text kept ≡ true =
            (bytes_eq-Decides text kept).1 (printed ∙ ap format.print (sym one) ∙ is) in cc)
            ∙ sym apart
      ]

-- ---- The bytes of a line

module _ {R : Type 0} (format : Format R) (f : R → List R) (line : Line) where
  -- a line that stays, as bytes
  pub stays-bytes :
      (lines : List Line) → lines ≡ line ∷ [] → line_bytes line ≡ file_bytes lines
  stays-bytes lines is = sym (append-nil (line_bytes line)) ∙ ap file_bytes (sym is)

  -- a line whose record is left, if it is one
  left-line-by :
      (found : Option R)
      → format.read line.text ≡ found
      → TellsSame format
      → ((r : R) → found ≡ Some r → f r ≡ r ∷ [])
      → becomes format f line ≡ line ∷ []
  left-line-by None is tells left =
      ap (λ kept. elim kept [ None ↦ line ∷ [] | Some r ↦ line_becomes format line r (f r) ]) is
  left-line-by (Some r) is tells left =
      becomes-read format f line (format.read line.text) r is
      ∙ ap (line_becomes format line r) (left r refl)
      ∙ stays format line r (format.same r r) ((tells r r).1 refl)

  -- a line that the change leaves
  pub left-line : TellsSame format → LeavesIt format f line.text → becomes format f line ≡ line ∷ []
  left-line tells left = left-line-by (format.read line.text) refl tells left

  -- other text stays
  pub other-line : format.read line.text ≡ None → becomes format f line ≡ line ∷ []
  other-line none =
      ap (λ kept. elim kept [ None ↦ line ∷ [] | Some r ↦ line_becomes format line r (f r) ]) none

  -- the line of a record becomes what the record does
  pub record-line :
      (r : R) → format.read line.text ≡ Some r →
      becomes format f line ≡ line_becomes format line r (f r)
  record-line r is = becomes-read format f line (format.read line.text) r is

  -- a record that stays leaves its line
  pub same-line : (r : R) → TellsSame format → f r ≡ r ∷ [] →
      line_becomes format line r (f r) ≡ line ∷ []
  same-line r tells same =
      ap (line_becomes format line r) same
      ∙ stays format line r (format.same r r) ((tells r r).1 refl)
