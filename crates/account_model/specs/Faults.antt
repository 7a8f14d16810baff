-- Why a text is no record, as a reader says it.
use Rattle.std.specs.Prelude.{ℕ, ◌-◌, Bool, List, [], ◌∷◌, ◌++◌, map, length, ◌==◌, slice_get, unwrap_or, is_some, Option, Some, None, if◌then◌else◌}
use Rattle.account_model.specs.declared.fault.LineFault.{LineFault}
use Rattle.account_model.specs.declared.fault.LineFault.TheVariants.{FieldCount, BadNumber, EmptyName, BadRange}
use Rattle.acct_text.specs.Bytes.{is_empty}
use Rattle.account_model.specs.Text.{first_some}
use Rattle.acct_text.specs.Pieces.{fields_of}
use Rattle.account_model.specs.Records.{is_bad_range, read_id, read_days, read_count, is_id}

-- a field of a line, by its place from 1
abbrev pub field_at : ℕ → List (List ℕ) → List ℕ
field_at place pieces = unwrap_or (slice_get pieces (place - 1)) []

-- a field that must be a number, by its place, and the test of its text
abbrev pub NumberField : Type 0
NumberField = ℕ × (List ℕ → Bool)

-- the fault of a number field: it is no number in its bounds
abbrev pub field_fault : List (List ℕ) → NumberField → Option LineFault
field_fault pieces field =
    if field.1 (field_at field.0 pieces) then None else Some (BadNumber field.0)

-- the fault of an empty first field
abbrev pub name_fault : List (List ℕ) → Option LineFault
name_fault pieces = if is_empty (field_at 1 pieces) then Some EmptyName else None

-- the number of fields, then the numbers in their order, then the name, then what the format adds
abbrev pub fields_fault : ℕ → List NumberField → Option LineFault → List (List ℕ) → Option LineFault
fields_fault count numbers further pieces = if length pieces == count
    then first_some (map (field_fault pieces) numbers ++ name_fault pieces ∷ further ∷ [])
    else Some (FieldCount (length pieces))

-- whether a text is a number of shadow
abbrev pub is_days_text : List ℕ → Bool
is_days_text text = is_some (read_days text)

-- whether a text is a count, before the range is tested
abbrev pub is_count_text : List ℕ → Bool
is_count_text text = is_some (read_count text)

-- the first fault of a line of passwd (passwd(5))
abbrev pub passwd_fault : List ℕ → Option LineFault
passwd_fault text = fields_fault 7 ((3, is_id) ∷ (4, is_id) ∷ []) None (fields_of text)

-- the first fault of a line of shadow (shadow(5))
abbrev pub shadow_fault : List ℕ → Option LineFault
shadow_fault text = fields_fault 9
    ((3, is_days_text) ∷ (4, is_days_text) ∷ (5, is_days_text) ∷ (6, is_days_text)
    ∷ (7, is_days_text) ∷ (8, is_days_text) ∷ []) None (fields_of text)

-- the first fault of a line of group (group(5))
abbrev pub group_fault : List ℕ → Option LineFault
group_fault text = fields_fault 4 ((3, is_id) ∷ []) None (fields_of text)

-- the first fault of a line of gshadow (gshadow(5))
abbrev pub gshadow_fault : List ℕ → Option LineFault
gshadow_fault text = fields_fault 4 [] None (fields_of text)

-- a count of 0, or a last ID above the greatest
abbrev pub range_fault : Option ℕ → Option ℕ → Option LineFault
range_fault (Some first) (Some count) = if is_bad_range first count then Some BadRange else None
range_fault first count = None

-- the first fault of a line of subuid or subgid (subuid(5), subgid(5))
abbrev pub subid_fault : List ℕ → Option LineFault
subid_fault text = fields_fault 3 ((2, is_id) ∷ (3, is_count_text) ∷ [])
    (range_fault (read_id (field_at 2 (fields_of text))) (read_count (field_at 3 (fields_of text))))
    (fields_of text)
