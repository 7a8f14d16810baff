-- No edit touches other text: it stays as it is, in its order.
use Rattle.std.proofs.Common.{◌≡◌, ℕ, Bool, true, false, List, [], ◌∷◌, ◌++◌, map, refl, ◌∙◌, ap, append-nil}
use Rattle.std.specs.Prelude.{Option, Some, None, flat_map, nat_le, is_some, option_map, if◌then◌else◌}
use Rattle.std.specs.List.{AllByRecursion, cons_option}
use Rattle.acct_text.specs.Bytes.{newline}
use Rattle.acct_text.specs.Pieces.{Lacks}
use Rattle.acct_text.specs.Lines.{Line, lines_of, file_bytes}
use Rattle.acct_text.proofs.LinesLaws.{lines_of-only}
use Rattle.account_model.proofs.EditLines.{fine-edit, edited-lines}
use Rattle.account_model.proofs.FineLines.{Fine, fine-lines}
use Rattle.account_model.specs.Format.{Format, records_of, is_named, has_named}
use Rattle.account_model.specs.Edits.{Edit, Become, Add, AddMissing, Put, Arrange, line_becomes, becomes, as_ended, with_line, put_first, edited, edited_by, Keyed, keyed_texts, insert_by_key, sorted_by_key, in_places}
use Rattle.account_model.specs.Written.{IsWritten}
use Rattle.account_model.specs.RecordEdits.{IsWrittenEdit, unless_read, other_text, other_texts}

-- a text that may be there, in front of others
cons-front : {X : Type 0} (o : Option X) (xs : List X) → cons_option o [] ++ xs ≡ cons_option o xs
cons-front None xs = refl
cons-front (Some x) xs = refl

-- a text that may be there, in front of two lists
cons-append :
    {X : Type 0} (o : Option X) (a b : List X)
    → cons_option o (a ++ b) ≡ cons_option o a ++ b
cons-append None a b = refl
cons-append (Some x) a b = refl

-- the other text of two lists of lines
others-append :
    {R : Type 0} (format : Format R) (a b : List Line)
    → other_texts format (a ++ b) ≡ other_texts format a ++ other_texts format b
others-append format [] b = refl
others-append format (line ∷ a) b =
    ap (λ texts. cons_option (other_text format line) texts) (others-append format a b)
    ∙ cons-append (other_text format line) (other_texts format a) (other_texts format b)

-- other text doesn't go by ends
others-ended :
    {R : Type 0} (format : Format R) (lines : List Line)
    → other_texts format (map as_ended lines) ≡ other_texts format lines
others-ended format [] = refl
others-ended format (line ∷ lines) =
    ap (λ texts. cons_option (other_text format line) texts) (others-ended format lines)

-- ---- Records are no other text

-- printed records are no other text
printed-none :
    {R : Type 0} (format : Format R) (records : List R)
    → AllByRecursion (IsWritten format) records
    → other_texts format (map (λ u. record { text = format.print u; ended = true }) records) ≡ []
printed-none format [] written = refl
printed-none format (r ∷ records) written =
    rw written.0.reads (printed-none format records written.1)

-- one line, as it was or printed
one-none :
    {R : Type 0} (format : Format R) (line : Line) (r s : R) (same : Bool)
    → format.read line.text ≡ Some r
    → IsWritten format s
    → other_texts format (if same then line ∷ []
    else record line { text = format.print s } ∷ []) ≡ []
one-none format line r s true read written = rw read refl
one-none format line r s false read written = rw written.reads refl

-- the lines that a record's line becomes
line-none :
    {R : Type 0} (format : Format R) (line : Line) (r : R) (news : List R)
    → format.read line.text ≡ Some r
    → AllByRecursion (IsWritten format) news
    → other_texts format (line_becomes format line r news) ≡ []
line-none format line r [] read written = refl
line-none format line r (s ∷ []) read written =
    one-none format line r s (format.same r s) read written.0
line-none format line r (s ∷ t ∷ rest) read written = printed-none format (s ∷ t ∷ rest) written

-- ---- Each edit

-- a line, by what it reads
becomes-by :
    {R : Type 0} (format : Format R) (f : R → List R) (line : Line) (o : Option R)
    → Lacks newline line.text
    → format.read line.text ≡ o
    → ((text : List ℕ) (r : R) → Lacks newline text → format.read text ≡ Some r
    → AllByRecursion (IsWritten format) (f r))
    → other_texts format (elim o [ None ↦ line ∷ [] | Some r ↦ line_becomes format line r (f r) ])
    ≡ cons_option (unless_read o line.text) []
becomes-by format f line None apart read written = rw read refl
becomes-by format f line (Some r) apart read written =
    line-none format line r (f r) read (written line.text r apart read)

-- records that become others
become-others :
    {R : Type 0} (format : Format R) (f : R → List R) (lines : List Line)
    → AllByRecursion (λ line. Lacks newline line.text) lines
    → ((text : List ℕ) (r : R) → Lacks newline text → format.read text ≡ Some r
    → AllByRecursion (IsWritten format) (f r))
    → other_texts format (flat_map (becomes format f) lines) ≡ other_texts format lines
become-others format f [] apart written = refl
become-others format f (line ∷ lines) apart written =
    others-append format (becomes format f line) (flat_map (becomes format f) lines)
    ∙ ap (λ front. front ++ other_texts format (flat_map (becomes format f) lines))
    (becomes-by format f line (format.read line.text) apart.0 refl written)
    ∙ ap (λ rest. cons_option (other_text format line) [] ++ rest)
    (become-others format f lines apart.1 written)
    ∙ cons-front (other_text format line) (other_texts format lines)

-- a record that is added
add-others :
    {R : Type 0} (format : Format R) (r : R) (lines : List Line)
    → IsWritten format r
    → other_texts format (with_line (format.print r) lines) ≡ other_texts format lines
add-others format r lines written =
    others-append format (map as_ended lines) (record { text = format.print r; ended = true } ∷ [])
    ∙ ap (λ rest. other_texts format (map as_ended lines) ++ rest)
    (printed-none format (r ∷ []) (written, tt))
    ∙ append-nil (other_texts format (map as_ended lines))
    ∙ others-ended format lines

-- a line with a record, by whether the `put` names it
put-some :
    {R : Type 0} (format : Format R) (r s : R) (line : Line) (rest : List Line) (named : Bool)
    → format.read line.text ≡ Some s
    → IsWritten format r
    → other_texts format (put_first format r rest) ≡ other_texts format rest
    → other_texts format (if named then line_becomes format line s (r ∷ []) ++ rest else line
    ∷ put_first format r rest) ≡ other_texts format rest
put-some format r s line rest true read written later =
    others-append format (line_becomes format line s (r ∷ [])) rest
    ∙ ap (λ front. front ++ other_texts format rest)
    (line-none format line s (r ∷ []) read (written, tt))
put-some format r s line rest false read written later = rw read later

-- a line, by what it reads
put-by :
    {R : Type 0} (format : Format R) (r : R) (line : Line) (rest : List Line) (o : Option R)
    → format.read line.text ≡ o
    → IsWritten format r
    → other_texts format (put_first format r rest) ≡ other_texts format rest
    → other_texts format (elim o [
      | None ↦ line
          ∷ put_first format r rest
      | Some s ↦ if is_named format (format.name r) s
          then line_becomes format line s (r ∷ []) ++ rest else line ∷ put_first format r rest
    ])
    ≡ cons_option (unless_read o line.text) (other_texts format rest)
put-by format r line rest None read written later = rw read (ap (λ texts. line.text ∷ texts) later)
put-by format r line rest (Some s) read written later =
    put-some format r s line rest (is_named format (format.name r) s) read written later

-- the first record of a name becomes another
put-others :
    {R : Type 0} (format : Format R) (r : R) (lines : List Line)
    → IsWritten format r
    → other_texts format (put_first format r lines) ≡ other_texts format lines
put-others format r [] written = refl
put-others format r (line ∷ rest) written = put-by format r line rest (format.read line.text) refl
    written (put-others format r rest written)

-- ---- Arrange

-- each text is a record
abbrev AllRead : {R : Type 0} → Format R → List Keyed → Type 0
AllRead {R} format xs = AllByRecursion (λ x. (r : R) × (format.read x.text ≡ Some r)) xs

-- the text of a line that may be a record, in front of the others
keyed-by :
    {R : Type 0} (format : Format R) (key : R → ℕ) (line : Line) (o : Option R)
    → format.read line.text ≡ o
    → (xs : List Keyed)
    → AllRead format xs
    → AllRead format (cons_option (option_map (λ r. record { key = key r; text = line.text }) o) xs)
keyed-by format key line None read xs all = all
keyed-by format key line (Some r) read xs all = ((r, read), all)

-- the texts of all records
keyed-read :
    {R : Type 0} (format : Format R) (key : R → ℕ) (lines : List Line)
    → AllRead format (keyed_texts format key lines)
keyed-read format key [] = tt
keyed-read format key (line ∷ lines) = keyed-by format key line (format.read line.text) refl
    (keyed_texts format key lines) (keyed-read format key lines)

-- a text in its place or behind
insert-by :
    {R : Type 0} (format : Format R) (x y : Keyed) (xs : List Keyed) (first : Bool)
    → (r : R) × (format.read x.text ≡ Some r)
    → AllRead format (y ∷ xs)
    → AllRead format (insert_by_key x xs)
    → AllRead format (if first then x ∷ y ∷ xs else y ∷ insert_by_key x xs)
insert-by format x y xs true is all later = (is, all)
insert-by format x y xs false is all later = (all.0, later)

-- a text in its place
insert-read :
    {R : Type 0} (format : Format R) (x : Keyed) (xs : List Keyed)
    → (r : R) × (format.read x.text ≡ Some r)
    → AllRead format xs
    → AllRead format (insert_by_key x xs)
insert-read format x [] is all = (is, tt)
insert-read format x (y ∷ xs) is all =
    insert-by format x y xs (nat_le x.key y.key) is all (insert-read format x xs is all.1)

-- sorted texts
sorted-read :
    {R : Type 0} (format : Format R) (xs : List Keyed)
    → AllRead format xs
    → AllRead format (sorted_by_key xs)
sorted-read format [] all = tt
sorted-read format (x ∷ xs) all =
    insert-read format x (sorted_by_key xs) all.0 (sorted-read format xs all.1)

-- a place, by whether it is a record's
places-by :
    {R : Type 0} (format : Format R) (x : Keyed) (xs : List Keyed) (line : Line) (lines : List Line)
    (o : Option R)
    → format.read line.text ≡ o
    → (r : R) × (format.read x.text ≡ Some r)
    → other_texts format (in_places format xs lines) ≡ other_texts format lines
    → other_texts format (in_places format (x ∷ xs) lines) ≡ other_texts format lines
    → other_texts format (if is_some o then record line { text = x.text }
    ∷ in_places format xs lines else line ∷ in_places format (x ∷ xs) lines)
    ≡ cons_option (unless_read o line.text) (other_texts format lines)
places-by format x xs line lines None read is used kept =
    rw read (ap (λ texts. line.text ∷ texts) kept)
places-by format x xs line lines (Some s) read is used kept = rw is.1 used

-- texts in the places of records
places-others :
    {R : Type 0} (format : Format R) (xs : List Keyed) (lines : List Line)
    → AllRead format xs
    → other_texts format (in_places format xs lines) ≡ other_texts format lines
places-others format xs [] all = refl
places-others format [] (line ∷ lines) all = refl
places-others format (x ∷ xs) (line ∷ lines) all =
    places-by format x xs line lines (format.read line.text) refl all.0
    (places-others format xs lines all.1) (places-others format (x ∷ xs) lines all)

-- ---- Any edit

-- one of two ways
either-others :
    {R : Type 0} (format : Format R) (a b lines : List Line) (there : Bool)
    → other_texts format a ≡ other_texts format lines
    → other_texts format b ≡ other_texts format lines
    → other_texts format (if there then a else b) ≡ other_texts format lines
either-others format a b lines true is_a is_b = is_a
either-others format a b lines false is_a is_b = is_b

-- any edit leaves other text as it is
pub edit-others :
    {R : Type 0} (format : Format R) (edit : Edit R) (lines : List Line)
    → AllByRecursion (λ line. Lacks newline line.text) lines
    → IsWrittenEdit format edit
    → other_texts format (edited format lines edit) ≡ other_texts format lines
edit-others format (Become f) lines apart written = become-others format f lines apart written
edit-others format (Add r) lines apart written = add-others format r lines written
edit-others format (AddMissing r) lines apart written =
    either-others format lines (with_line (format.print r) lines) lines
    (has_named format (format.name r) (records_of format lines)) refl
    (add-others format r lines written)
edit-others format (Put r) lines apart written =
    either-others format (put_first format r lines) (with_line (format.print r) lines) lines
    (has_named format (format.name r) (records_of format lines))
    (put-others format r lines written) (add-others format r lines written)
edit-others format (Arrange key) lines apart written =
    places-others format (sorted_by_key (keyed_texts format key lines)) lines
    (sorted-read format (keyed_texts format key lines) (keyed-read format key lines))

-- ---- Any table

-- and so do edits in their order
edits-others :
    {R : Type 0} (format : Format R)
    → format.read [] ≡ None
    → (edits : List (Edit R)) (lines : List Line)
    → Fine lines
    → AllByRecursion (IsWrittenEdit format) edits
    → other_texts format (edited_by format edits lines) ≡ other_texts format lines
edits-others format none [] lines fine written = refl
edits-others format none (edit ∷ edits) lines fine written =
    edits-others format none edits (edited format lines edit)
    (fine-edit format none edit lines written.0 fine) written.1
    ∙ edit-others format edit lines fine.apart written.0

-- other text of a table stays as it is
pub table-others :
    {R : Type 0} (format : Format R)
    → format.read [] ≡ None
    → (edits : List (Edit R)) (bytes : List ℕ)
    → AllByRecursion (IsWrittenEdit format) edits
    → other_texts format (lines_of (file_bytes (edited_by format edits (lines_of bytes))))
    ≡ other_texts format (lines_of bytes)
table-others format none edits bytes written =
    ap (other_texts format) (lines_of-only (file_bytes (edited_by format edits (lines_of bytes)))
    (edited_by format edits (lines_of bytes)) (edited-lines format none edits bytes written))
    ∙ edits-others format none edits (lines_of bytes) (fine-lines bytes) written
