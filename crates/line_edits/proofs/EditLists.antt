-- Claim: what is asked of all edits holds of the one at a place (`edit-at`), so each edit of a list may
-- be carried out in its turn; and edits may be carried out up to a place and then from there
-- (`edited-apart`).
use Rattle.std.proofs.Common.{◌≡◌, ◌==◌, ℕ, ◌+◌, ◌<◌, true, false, List, [], ◌∷◌, ◌++◌, length, take, drop, get_or, zero, suc, refl, sym, ◌∙◌, ap, subst, arith}
use Rattle.std.specs.Prelude.{None}
use Rattle.std.specs.List.{AllByRecursion}
use Rattle.std.proofs.lemmas.Bool.{ne_eqb}
use Rattle.std.proofs.lemmas.List.{drop_more, map-append, take_more}
use Rattle.acct_text.specs.Lines.{Line, file_bytes, lines_of}
use Rattle.acct_text.proofs.LinesLaws.{lines_of-only}
use Rattle.account_model.specs.Edits.{edited, edited_by}
use Rattle.account_model.specs.Edits as model
use Rattle.account_model.specs.Format.{Format}
use Rattle.account_model.specs.RecordEdits.{IsWrittenEdit}
use Rattle.account_model.proofs.EditLines.{edited-lines}
use Rattle.line_edits.specs.declared.edit.Edit.{Edit}
use Rattle.line_edits.specs.SeenEdits.{seen_edit, seen_edits}

-- a list of no length is empty
pub no-edits : {X : Type 0} (edits : List X) → (length edits == 0) ≡ true → edits ≡ []
no-edits [] is = refl
no-edits (edit ∷ edits) is =
    let more : (length (edit ∷ edits) == 0) ≡ false =
    ne_eqb (length (edit ∷ edits)) 0 (λ same. omega (arith, same)) in
    absurd cc

module _ {R C : Type 0} (becomes : C → R → List R) where
  -- what holds of all holds of the edit at a place
  pub edit-at :
      (P : model.Edit R → Type 0) (edits : List (Edit R C)) (place : ℕ) (edit : Edit R C)
      → AllByRecursion P (seen_edits becomes edits)
      → place < length edits
      → edit ≡ get_or edits place edit
      → P (seen_edit becomes edit)
  edit-at P [] place edit all inside is = absurd (omega arith)
  edit-at P (first ∷ edits) zero edit all inside is =
      subst (λ e. P (seen_edit becomes e)) (sym is) all.0
  edit-at P (first ∷ edits) (suc place) edit all inside is =
      edit-at P edits place edit all.1 (omega arith) is

  -- the edits from a place on begin with the one there
  pub seen-from :
      (edits : List (Edit R C)) (place : ℕ) (edit : Edit R C)
      → place < length edits
      → edit ≡ get_or edits place edit
      → seen_edits becomes (drop place edits)
      ≡ seen_edit becomes edit ∷ seen_edits becomes (drop (place + 1) edits)
  seen-from edits place edit inside is =
      ap (seen_edits becomes) (drop_more edits place edit inside)
      ∙ ap (λ e. seen_edit becomes e ∷ seen_edits becomes (drop (place + 1) edits)) (sym is)

  -- what holds of all holds of those from a place on
  pub edits-from :
      (P : model.Edit R → Type 0) (edits : List (Edit R C)) (place : ℕ)
      → AllByRecursion P (seen_edits becomes edits)
      → AllByRecursion P (seen_edits becomes (drop place edits))
  edits-from P edits zero all = all
  edits-from P [] (suc place) all = all
  edits-from P (first ∷ edits) (suc place) all = edits-from P edits place all.1

  -- and of those up to a place
  pub edits-up_to :
      (P : model.Edit R → Type 0) (edits : List (Edit R C)) (place : ℕ)
      → AllByRecursion P (seen_edits becomes edits)
      → AllByRecursion P (seen_edits becomes (take place edits))
  edits-up_to P edits zero all = tt
  edits-up_to P [] (suc place) all = tt
  edits-up_to P (first ∷ edits) (suc place) all = (all.0, edits-up_to P edits place all.1)

  -- those up to the next place end with the edit here
  pub seen-up_to :
      (edits : List (Edit R C)) (place : ℕ) (edit : Edit R C)
      → place < length edits
      → edit ≡ get_or edits place edit
      → seen_edits becomes (take (place + 1) edits)
      ≡ seen_edits becomes (take place edits) ++ seen_edit becomes edit ∷ []
  seen-up_to edits place edit inside is =
      ap (seen_edits becomes) (take_more edits place edit inside)
      ∙ map-append (seen_edit becomes) (take place edits) (get_or edits place edit ∷ [])
      ∙ ap (λ e. seen_edits becomes (take place edits) ++ seen_edit becomes e ∷ []) (sym is)

  -- the edits from a place on, after those up to it, are all
  in-two :
      (format : Format R) (edits : List (Edit R C)) (place : ℕ) (lines : List Line)
      → edited_by format (seen_edits becomes (drop place edits))
      (edited_by format (seen_edits becomes (take place edits)) lines)
      ≡ edited_by format (seen_edits becomes edits) lines
  in-two format edits zero lines = refl
  in-two format [] (suc place) lines = refl
  in-two format (first ∷ edits) (suc place) lines =
      in-two format edits place (edited format lines (seen_edit becomes first))

  -- and so they are over the bytes between the two
  pub edited-apart :
      (format : Format R) (edits : List (Edit R C)) (place : ℕ) (text between : List ℕ)
      → format.read [] ≡ None
      → AllByRecursion (IsWrittenEdit format) (seen_edits becomes edits)
      → between
      ≡ file_bytes (edited_by format (seen_edits becomes (take place edits)) (lines_of text))
      → edited_by format (seen_edits becomes (drop place edits)) (lines_of between)
      ≡ edited_by format (seen_edits becomes edits) (lines_of text)
  edited-apart format edits place text between none written is =
      let front = seen_edits becomes (take place edits) in
      let half = edited_by format front (lines_of text) in
      ap (λ bytes. edited_by format (seen_edits becomes (drop place edits)) (lines_of bytes)) is
      ∙ ap (edited_by format (seen_edits becomes (drop place edits)))
      (lines_of-only (file_bytes half) half (edited-lines format none front text
      (edits-up_to (IsWrittenEdit format) edits place written)))
      ∙ in-two format edits place (lines_of text)
