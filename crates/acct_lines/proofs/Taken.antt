-- Claim: fields that were taken one by one until none is left are all fields of the line, and where
-- others are left, or more were to be taken, their number is the line's first fault (`all` and
-- `first` of `are-taken`). Way: field by field, what is left before follows from what is left then
-- (`none-left`), and the other way round (`all-taken`).
use Rattle.std.proofs.Common.{◌≡◌, ℕ, List, [], ◌∷◌, ◌++◌, length, Option, Some, None, refl, sym, subst, ◌∙◌, arith}
use Rattle.std.specs.Prelude.{MatchOption, map}
use Rattle.std.proofs.lemmas.Bool.{eq-eqb, ne_eqb}
use Rattle.account_model.specs.declared.fault.LineFault.{LineFault}
use Rattle.account_model.specs.Faults.{NumberField, field_fault, fields_fault, name_fault}
use Rattle.account_model.specs.Text.{first_some}
use Rattle.acct_text.specs.Bytes.{colon}
use Rattle.acct_text.specs.Pieces.{fields_of}
use Rattle.acct_lines.specs.declared.fields.Fields.{Fields}
use Rattle.acct_lines.specs.declared.fields.Fields.TheVariants.{Left, Taken, Missing}
use Rattle.acct_lines.specs.Fields.{AreFields, IsOtherCount, IsFieldTaken, fields_left}
use Rattle.acct_lines.proofs.Counted.{some-piece}

-- what is left of the fields
abbrev FieldsLeft : Type 0
FieldsLeft = Option (List (List ℕ))

-- these were taken, one by one
abbrev AreTaken : FieldsLeft → List (List ℕ) → FieldsLeft → Type 0
AreTaken before [] left = before ≡ left
AreTaken before (field ∷ taken) left =
    (between : FieldsLeft) × (IsFieldTaken before field between × AreTaken between taken left)

-- where none is left, they were all that were left before
none-left :
    (before : FieldsLeft) (taken : List (List ℕ))
    → AreTaken before taken (Some [])
    → before ≡ Some taken
none-left before [] same = same
none-left before (field ∷ taken) from =
    from.1.0.first taken (none-left from.0 taken from.1.1)

-- where as many were taken as there were, none is left
all-taken :
    (before left : FieldsLeft) (fields taken : List (List ℕ))
    → before ≡ Some fields
    → AreTaken before taken left
    → length fields ≡ length taken
    → left ≡ Some []
all-taken before left [] [] is same counted = sym same ∙ is
all-taken before left [] (field ∷ taken) is from counted = absurd (omega (arith, counted))
all-taken before left (next ∷ fields) [] is same counted = absurd (omega (arith, counted))
all-taken before left (next ∷ fields) (field ∷ taken) is from counted =
    let others = from.1.0.others next fields is in
    all-taken from.0 left fields taken others from.1.1 (omega (arith, counted))

-- no field is left only where all are taken: a part of a line has a field at least
pub none-left-taken : (fields : Fields) → fields_left fields ≡ Some [] → fields ≡ Taken
none-left-taken (Left rest) none =
    let empty : fields_of rest.now ≡ [] = cc in
    absurd (some-piece colon rest.now empty)
none-left-taken Taken none = refl
none-left-taken Missing none = absurd cc

-- what fields that were taken tell of the line, by the fault of their number
pub record AreTakenOf (count : ℕ) (line : List ℕ) (fields : List (List ℕ))
    (fault : Option LineFault) : Type 0 where
  -- where it's none, they are the fields of the line
  pub all : fault ≡ None → AreFields count line fields
  -- it comes before the faults of the fields
  pub first :
      (numbers : List NumberField) (further : Option LineFault)
      → fields_fault count numbers further (fields_of line)
      ≡ first_some (fault ∷ map (field_fault fields) numbers ++ name_fault fields ∷ further ∷ [])

-- fields that were taken, one before the others
pub record AreInTurn (before : FieldsLeft) (fields : List (List ℕ)) (left : FieldsLeft)
    : Type 0 where
  taken : AreTaken before fields left

infixr 5 ◌before◌
-- one field, and the others
pub ◌before◌ :
    {field : List ℕ} {fields : List (List ℕ)} {before between left : FieldsLeft}
    → IsFieldTaken before field between
    → AreInTurn between fields left
    → AreInTurn before (field ∷ fields) left
◌before◌ is others = record { taken = (_, (is, others.taken)) }

-- no other
pub no_more : {left : FieldsLeft} → AreInTurn left [] left
no_more = record { taken = refl }

-- such fields of the line tell that of it
pub are-taken :
    (line : List ℕ) (fault : Option LineFault) {fields : List (List ℕ)} {left : FieldsLeft}
    → AreInTurn (Some (fields_of line)) fields left
    → MatchOption fault (left ≡ Some []) (IsOtherCount line left)
    → AreTakenOf (length fields) line fields fault
are-taken line None {fields} {left} from none =
    let same : Some (fields_of line) ≡ Some fields =
    none-left _ fields (subst (AreTaken (Some (fields_of line)) fields) none from.taken)
    in
    let cut : fields ≡ fields_of line = cc in
    record {
      all = λ _. record { cut = cut; counted = refl };
      first = λ numbers further. rw (← cut, eq-eqb (length fields) (length fields) refl) refl;
    }
are-taken line (Some first) {fields} {left} from is = record {
  all = λ none. absurd cc;
  first = λ numbers further. rw (
    ne_eqb (length (fields_of line)) (length fields)
        (λ counted. is.other (all-taken _ left (fields_of line) fields refl from.taken counted)),
    is.told,
  ) refl;
}
