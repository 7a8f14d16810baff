-- What the edits of lines do to the records, and what they leave as it was.
use Rattle.acct_text.specs.Lines.{Line}
use Rattle.std.specs.Prelude.{Option, None, filter_map, ◌≡◌, ℕ, List, [], ◌∷◌, ◌++◌, flat_map, nat_le, Some, Decides, ⊤, if◌then◌else◌}
use Rattle.std.specs.List.{AllByRecursion}
use Rattle.acct_text.specs.Bytes.{newline}
use Rattle.acct_text.specs.Pieces.{Lacks}
use Rattle.account_model.specs.Format.{Format, is_named, has_named}
use Rattle.account_model.specs.Edits.{Edit, Become, Add, AddMissing, Put, Arrange}
use Rattle.account_model.specs.Written.{IsWritten}

-- the first record of the name becomes r
abbrev pub put_first_record : {R : Type 0} → Format R → R → List R → List R
put_first_record format r [] = []
put_first_record format r (s ∷ rest) =
    if is_named format (format.name r) s then r ∷ rest else s ∷ put_first_record format r rest

-- r before the first that has no smaller key
abbrev pub insert_record : {R : Type 0} → (R → ℕ) → R → List R → List R
insert_record key r [] = r ∷ []
insert_record key r (s ∷ rest) =
    if nat_le (key r) (key s) then r ∷ s ∷ rest else s ∷ insert_record key r rest

-- the records in the order of their keys, stably
abbrev pub sorted_records : {R : Type 0} → (R → ℕ) → List R → List R
sorted_records key [] = []
sorted_records key (r ∷ rest) = insert_record key r (sorted_records key rest)

-- the records after one edit
abbrev pub records_edited : {R : Type 0} → Format R → List R → Edit R → List R
records_edited format records (Become f) = flat_map f records
records_edited format records (Add r) = records ++ r ∷ []
records_edited format records (AddMissing r) =
    if has_named format (format.name r) records then records else records ++ r ∷ []
records_edited format records (Put r) = if has_named format (format.name r) records
    then put_first_record format r records
    else records ++ r ∷ []
records_edited format records (Arrange key) = sorted_records key records

-- the edit prints only records that read back, of records that do
abbrev pub IsWrittenEdit : {R : Type 0} → Format R → Edit R → Type 0
IsWrittenEdit {R} format (Become f) =
    (text : List ℕ) (r : R) → Lacks newline text → format.read text ≡ Some r
    → AllByRecursion (IsWritten format) (f r)
IsWrittenEdit format (Add r) = IsWritten format r
IsWrittenEdit format (AddMissing r) = IsWritten format r
IsWrittenEdit format (Put r) = IsWritten format r
IsWrittenEdit format (Arrange key) = ⊤

-- `same` tells whether two records are equal
abbrev pub TellsSame : {R : Type 0} → Format R → Type 0
TellsSame {R} format = (r s : R) → Decides (format.same r s) (r ≡ s)

-- the text where it isn't read as a record
abbrev pub unless_read : {R : Type 0} → Option R → List ℕ → Option (List ℕ)
unless_read None text = Some text
unless_read (Some r) text = None

-- a line's text where it is other text
abbrev pub other_text : {R : Type 0} → Format R → Line → Option (List ℕ)
other_text format line = unless_read (format.read line.text) line.text

-- all other text of lines, in order
abbrev pub other_texts : {R : Type 0} → Format R → List Line → List (List ℕ)
other_texts format lines = filter_map (other_text format) lines
