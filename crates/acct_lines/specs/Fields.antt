-- The fields of a line as they are taken and read: so many as the table has, and no fault in them.
use Rattle.std.specs.Prelude.{◌≡◌, ◌≢◌, ℕ, List, [], ◌∷◌, length, Option, None, Some, is_some, if◌then◌else◌}
use Rattle.std.specs.Option.{option_or}
use Rattle.account_model.specs.declared.fault.LineFault.{LineFault}
use Rattle.account_model.specs.declared.fault.LineFault.TheVariants.{FieldCount}
use Rattle.acct_text.specs.Pieces.{fields_of}
use Rattle.acct_lines.specs.declared.fields.Fields.{Fields}
use Rattle.acct_lines.specs.declared.fields.Fields.TheVariants.{Left, Taken, Missing}

-- the fields that are left to be taken; none where more were to be taken than the line has
abbrev pub fields_left : Fields → Option (List (List ℕ))
fields_left (Left rest) = Some (fields_of rest.now)
fields_left Taken = Some []
fields_left Missing = None

-- the field was taken from those that were left before, and these are left then
pub record IsFieldTaken (before : Option (List (List ℕ))) (field : List ℕ)
    (left : Option (List (List ℕ))) : Type 0 where
  -- it stood in front of those that are left
  pub first : (rest : List (List ℕ)) → left ≡ Some rest → before ≡ Some (field ∷ rest)
  -- all but the first are left
  pub others :
      (next : List ℕ) (rest : List (List ℕ)) → before ≡ Some (next ∷ rest) → left ≡ Some rest

-- the fault of a line that has more fields than were taken, or fewer
pub record IsOtherCount (line : List ℕ) (left : Option (List (List ℕ))) (fault : LineFault)
    : Type 0 where
  pub other : left ≢ Some []
  pub told : fault ≡ FieldCount (length (fields_of line))

-- the fields of the line, which has this number of them
pub record AreFields (count : ℕ) (line : List ℕ) (fields : List (List ℕ)) : Type 0 where
  pub cut : fields ≡ fields_of line
  pub counted : length fields ≡ count

-- what was read of a field behind others: its value, where no fault came, and else the first fault,
-- which is this one where the field is the first that couldn't be read
pub record IsFieldRead {X : Type 0} (found : Option X) (fault : LineFault)
    (before after : Option LineFault) (value : X) : Type 0 where
  pub first : after ≡ option_or before (if is_some found then None else Some fault)
  pub read : after ≡ None → found ≡ Some value
