-- What a command does to the lines of a table. Other text is never touched, and a record that stays keeps its bytes
-- (passwd(5), shadow(5), group(5), gshadow(5), subuid(5), subgid(5)).
use Rattle.std.specs.Prelude.{ℕ, Bool, true, false, ◌&&◌, ◌||◌, not, List, [], ◌∷◌, ◌++◌, map, flat_map, fold, filter_map, find, nat_le, is_some, option_map, Option, Some, None, if◌then◌else◌}
use Rattle.acct_text.specs.Lines.{Line}
use Rattle.account_model.specs.Format.{Format, records_of, is_named, has_named, count_named}

-- one edit of a table of such records
pub data Edit (R : Type 0) : Type 0 where
  -- each record becomes these records, in its place: one (`each`), none (`drop`), or two (`cut`)
  Become : (R → List R) → Edit R
  -- the record goes after the last line
  Add : R → Edit R
  -- the same where no record has its name: a line on demand
  AddMissing : R → Edit R
  -- the first record of its name becomes this one; where there is none, it is added
  Put : R → Edit R
  -- the texts of the records are put in the order of their keys, stably, in the places of records
  Arrange : (R → ℕ) → Edit R

-- every record becomes what f gives
abbrev pub each : {R : Type 0} → (R → R) → Edit R
each f = Become (λ r. f r ∷ [])

-- the records that pass the test become what f gives
abbrev pub each_where : {R : Type 0} → (R → Bool) → (R → R) → Edit R
each_where test f = each (λ r. if test r then f r else r)

-- the records that pass the test go
abbrev pub drop_where : {R : Type 0} → (R → Bool) → Edit R
drop_where test = Become (λ r. if test r then [] else r ∷ [])

-- the edit where the test holds, and else none
abbrev pub edit_if : {R : Type 0} → Bool → Edit R → List (Edit R)
edit_if test edit = if test then edit ∷ [] else []

-- the line of a new record, which has an end
abbrev pub printed_line : {R : Type 0} → Format R → R → Line
printed_line format r = record { text = format.print r; ended = true }

-- What a record's line becomes: a record that stays keeps its bytes, a single line keeps its end or the want of one, and
-- of two lines both have an end.
abbrev pub line_becomes : {R : Type 0} → Format R → Line → R → List R → List Line
line_becomes format line r [] = []
line_becomes format line r (s ∷ []) =
    if format.same r s then line ∷ [] else record line { text = format.print s } ∷ []
line_becomes format line r (s ∷ t ∷ rest) = map (printed_line format) (s ∷ t ∷ rest)

-- what a line becomes where each record becomes what f gives; other text stays
abbrev pub becomes : {R : Type 0} → Format R → (R → List R) → Line → List Line
becomes format f line = elim (format.read line.text) [
  | None ↦ line ∷ []
  | Some r ↦ line_becomes format line r (f r)
]

-- the line, with an end
abbrev pub as_ended : Line → Line
as_ended line = record line { ended = true }

-- the lines with one more, which has an end; a last line that had none gets one
abbrev pub with_line : List ℕ → List Line → List Line
with_line text lines = map as_ended lines ++ record { text = text; ended = true } ∷ []

-- the first record of the name is replaced
abbrev pub put_first : {R : Type 0} → Format R → R → List Line → List Line
put_first format r [] = []
put_first format r (line ∷ rest) = elim (format.read line.text) [
  | None ↦ line ∷ put_first format r rest
  | Some s ↦ if is_named format (format.name r) s
      then line_becomes format line s (r ∷ []) ++ rest
      else line ∷ put_first format r rest
]

-- the text of a record's line, with the key by which it is sorted
pub record Keyed : Type 0 where
  pub key : ℕ
  pub text : List ℕ

-- the text of a line with the key of its record; other text has none
abbrev pub keyed_text : {R : Type 0} → Format R → (R → ℕ) → Line → Option Keyed
keyed_text format key line =
    option_map (λ r. record { key = key r; text = line.text }) (format.read line.text)

-- the texts of all records with their keys, in order
abbrev pub keyed_texts : {R : Type 0} → Format R → (R → ℕ) → List Line → List Keyed
keyed_texts format key lines = filter_map (keyed_text format key) lines

-- the new text before the first that has no smaller key
abbrev pub insert_by_key : Keyed → List Keyed → List Keyed
insert_by_key new [] = new ∷ []
insert_by_key new (old ∷ rest) =
    if nat_le new.key old.key then new ∷ old ∷ rest else old ∷ insert_by_key new rest

-- sorted by key; of equal keys the earlier stays the earlier
abbrev pub sorted_by_key : List Keyed → List Keyed
sorted_by_key [] = []
sorted_by_key (first ∷ rest) = insert_by_key first (sorted_by_key rest)

-- the texts, one after another, in the places of records
abbrev pub in_places : {R : Type 0} → Format R → List Keyed → List Line → List Line
in_places format texts [] = []
in_places format [] (line ∷ rest) = line ∷ rest
in_places format (first ∷ texts) (line ∷ rest) = if is_some (format.read line.text)
    then record line { text = first.text } ∷ in_places format texts rest
    else line ∷ in_places format (first ∷ texts) rest

-- the lines after one edit
abbrev pub edited : {R : Type 0} → Format R → List Line → Edit R → List Line
edited format lines (Become f) = flat_map (becomes format f) lines
edited format lines (Add r) = with_line (format.print r) lines
edited format lines (AddMissing r) = if has_named format (format.name r) (records_of format lines)
    then lines else with_line (format.print r) lines
edited format lines (Put r) = if has_named format (format.name r) (records_of format lines)
    then put_first format r lines else with_line (format.print r) lines
edited format lines (Arrange key) =
    in_places format (sorted_by_key (keyed_texts format key lines)) lines

-- the lines after edits in their order
abbrev pub edited_by : {R : Type 0} → Format R → List (Edit R) → List Line → List Line
edited_by format edits lines = fold (edited format) lines edits

-- ---- Touched lines

-- whether a record is touched where it becomes these: it goes or differs, or the later edits touch it
abbrev pub becoming_touches : {R : Type 0} → Format R → R → List R → (R → Bool) → Bool
becoming_touches format r [] later = true
becoming_touches format r (s ∷ []) later = not (format.same r s) || later s
becoming_touches format r (s ∷ t ∷ rest) later = true

-- Whether the edits, in their order, touch a record of the old table: a `put` has its name, it becomes another record, or
-- it goes. A `put` meets only the first record of its name; `touched_lines_are_met` shows that to count the others too
-- changes nothing in which name is found first.
abbrev pub touches : {R : Type 0} → Format R → List (Edit R) → R → Bool
touches format [] r = false
touches format (Become f ∷ edits) r = becoming_touches format r (f r) (touches format edits)
touches format (Put s ∷ edits) r = is_named format (format.name s) r || touches format edits r
touches format (Add s ∷ edits) r = touches format edits r
touches format (AddMissing s ∷ edits) r = touches format edits r
touches format (Arrange key ∷ edits) r = touches format edits r

-- the record's name has two or more records in its table
abbrev pub is_multiple : {R : Type 0} → Format R → List R → R → Bool
is_multiple format records r = nat_le 2 (count_named format (format.name r) records)

-- the name of the first touched record whose name has two or more records in its table
abbrev pub first_multiple : {R : Type 0} → Format R → List (Edit R) → List R → Option (List ℕ)
first_multiple format edits records =
    option_map format.name
    (find (λ r. touches format edits r && is_multiple format records r) records)
