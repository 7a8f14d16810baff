-- Claims: edits touch a record where the first of them does alone or those behind it do (`first-or`). A
-- change that leaves a record doesn't touch it (`left-untouched`). Way: what becomes the same record is
-- touched by the edits behind alone.
use Rattle.std.proofs.Common.{◌≡◌, ◌∙◌, Bool, true, false, List, [], ◌∷◌, refl, sym, ap}
use Rattle.std.specs.Prelude.{◌||◌, not}
use Rattle.account_model.specs.Edits.{becoming_touches, touches}
use Rattle.account_model.specs.Edits as model
use Rattle.account_model.specs.Edits.Edit.{Become, Add, AddMissing, Put, Arrange}
use Rattle.account_model.specs.Format.{Format, is_named}
use Rattle.account_model.specs.RecordEdits.{TellsSame}
use Rattle.line_edits.specs.Touching.{touches_alone}

-- a test that is repeated, or another
once-or : (test other : Bool) → (test || other) ≡ ((test || false) || other)
once-or true other = refl
once-or false other = refl

module _ {R : Type 0} (format : Format R) (tells : TellsSame format) where
  -- a record that a change leaves isn't touched
  pub left-untouched :
      (f : R → List R) (r : R) → f r ≡ r ∷ [] → touches_alone format (Become f) r ≡ false
  left-untouched f r left =
      ap (λ now. becoming_touches format r now (touches format [])) left
      ∙ ap (λ same. not same || false) ((tells r r).1 refl)

  -- by whether it becomes the same record
  first-same :
      (r s : R) (later : R → Bool) (same : Bool)
      → format.same r s ≡ same
      → (not same || later s) ≡ ((not same || false) || later r)
  first-same r s later true is = ap later (sym ((tells r s).0 is))
  first-same r s later false is = refl

  -- by what it becomes
  first-becomes :
      (r : R) (now : List R) (later : R → Bool)
      → becoming_touches format r now later
      ≡ (becoming_touches format r now (touches format []) || later r)
  first-becomes r [] later = refl
  first-becomes r (s ∷ []) later = first-same r s later (format.same r s) refl
  first-becomes r (s ∷ t ∷ more) later = refl

  -- the first of them does, or one behind it
  pub first-or :
      (edit : model.Edit R) (edits : List (model.Edit R)) (r : R)
      → touches format (edit ∷ edits) r ≡ (touches_alone format edit r || touches format edits r)
  first-or (Become f) edits r = first-becomes r (f r) (touches format edits)
  first-or (Add s) edits r = refl
  first-or (AddMissing s) edits r = refl
  first-or (Put s) edits r = once-or (is_named format (format.name s) r) (touches format edits r)
  first-or (Arrange key) edits r = refl
