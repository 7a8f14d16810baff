-- An edit of lines is an edit of the list of the records.
use Rattle.std.proofs.lemmas.List.{nil_from_length}
use Rattle.std.proofs.Common.{length, suc, pred, ◌≡◌, ℕ, Bool, true, false, List, [], ◌∷◌, ◌++◌, map, refl, sym, ◌∙◌, ap, subst, append-nil}
use Rattle.std.specs.Prelude.{Option, Some, None, flat_map, nat_le, is_some, option_map, Decides, if◌then◌else◌}
use Rattle.std.specs.List.{AllByRecursion, cons_option}
use Rattle.acct_text.specs.Bytes.{newline}
use Rattle.acct_text.specs.Pieces.{Lacks}
use Rattle.acct_text.specs.Lines.{Line}
use Rattle.account_model.specs.Format.{Format, records_of, is_named, has_named}
use Rattle.account_model.specs.Edits.{Edit, Become, Add, AddMissing, Put, Arrange, line_becomes, becomes, as_ended, with_line, put_first, edited, Keyed, keyed_texts, insert_by_key, sorted_by_key, in_places}
use Rattle.account_model.specs.Written.{IsWritten}
use Rattle.account_model.specs.RecordEdits.{put_first_record, insert_record, sorted_records, records_edited, IsWrittenEdit, TellsSame}

-- ---- Records of parts of a file

-- a record that may be there, in front of two lists
cons-append :
    {R : Type 0} (o : Option R) (a b : List R)
    → cons_option o (a ++ b) ≡ cons_option o a ++ b
cons-append None a b = refl
cons-append (Some r) a b = refl

-- the records of two lists of lines
records-append :
    {R : Type 0} (format : Format R) (a b : List Line)
    → records_of format (a ++ b) ≡ records_of format a ++ records_of format b
records-append format [] b = refl
records-append format (line ∷ a) b =
    ap (λ records. cons_option (format.read line.text) records) (records-append format a b)
    ∙ cons-append (format.read line.text) (records_of format a) (records_of format b)

-- the records of lines don't go by their ends
records-ended :
    {R : Type 0} (format : Format R) (lines : List Line)
    → records_of format (map as_ended lines) ≡ records_of format lines
records-ended format [] = refl
records-ended format (line ∷ lines) =
    ap (λ records. cons_option (format.read line.text) records) (records-ended format lines)

-- ---- Become

-- printed records are read back
printed :
    {R : Type 0} (format : Format R) (records : List R)
    → AllByRecursion (IsWritten format) records
    → records_of format (map (λ u. record {
      text = format.print u;
      ended = true;
    }) records) ≡ records
printed format [] written = refl
printed format (r ∷ records) written =
    rw written.0.reads (ap (λ rest. r ∷ rest) (printed format records written.1))

-- a line that becomes one record
one-becomes :
    {R : Type 0} (format : Format R) (line : Line) (r s : R) (same : Bool)
    → format.read line.text ≡ Some r
    → IsWritten format s
    → Decides same (r ≡ s)
    → records_of format (if same then line ∷ []
    else record line { text = format.print s } ∷ []) ≡ s ∷ []
one-becomes format line r s true read written tells = rw read (ap (λ t. t ∷ []) (tells.0 refl))
one-becomes format line r s false read written tells = rw written.reads refl

-- a line that becomes records
line-becomes :
    {R : Type 0} (format : Format R)
    → TellsSame format
    → (line : Line) (r : R) (news : List R)
    → format.read line.text ≡ Some r
    → AllByRecursion (IsWritten format) news
    → records_of format (line_becomes format line r news) ≡ news
line-becomes format tells line r [] read written = refl
line-becomes format tells line r (s ∷ []) read written =
    one-becomes format line r s (format.same r s) read written.0 (tells r s)
line-becomes format tells line r (s ∷ t ∷ rest) read written = printed format (s ∷ t ∷ rest) written

-- a line of which the record becomes others, or that is other text
becomes-by :
    {R : Type 0} (format : Format R)
    → TellsSame format
    → (f : R → List R) (line : Line) (o : Option R)
    → Lacks newline line.text
    → format.read line.text ≡ o
    → ((text : List ℕ) (r : R) → Lacks newline text → format.read text ≡ Some r
    → AllByRecursion (IsWritten format) (f r))
    → records_of format (elim o [ None ↦ line ∷ [] | Some r ↦ line_becomes format line r (f r) ])
    ≡ flat_map f (cons_option o [])
becomes-by format tells f line None apart read written = rw read refl
becomes-by format tells f line (Some r) apart read written =
    line-becomes format tells line r (f r) read (written line.text r apart read)
    ∙ sym (append-nil (f r))

-- what becomes of a record that may be there, in front of the others
flat-cons :
    {R : Type 0} (f : R → List R) (o : Option R) (rest : List R)
    → flat_map f (cons_option o []) ++ flat_map f rest ≡ flat_map f (cons_option o rest)
flat-cons f None rest = refl
flat-cons f (Some r) rest = ap (λ front. front ++ flat_map f rest) (append-nil (f r))

-- records that become others
become-edit :
    {R : Type 0} (format : Format R)
    → TellsSame format
    → (f : R → List R) (lines : List Line)
    → AllByRecursion (λ line. Lacks newline line.text) lines
    → ((text : List ℕ) (r : R) → Lacks newline text → format.read text ≡ Some r
    → AllByRecursion (IsWritten format) (f r))
    → records_of format (flat_map (becomes format f) lines) ≡ flat_map f (records_of format lines)
become-edit format tells f [] apart written = refl
become-edit format tells f (line ∷ lines) apart written =
    records-append format (becomes format f line) (flat_map (becomes format f) lines)
    ∙ ap (λ front. front ++ records_of format (flat_map (becomes format f) lines))
    (becomes-by format tells f line (format.read line.text) apart.0 refl written)
    ∙ ap (λ rest. flat_map f (cons_option (format.read line.text) []) ++ rest)
    (become-edit format tells f lines apart.1 written)
    ∙ flat-cons f (format.read line.text) (records_of format lines)

-- ---- Add

-- a record that is added
add-edit : {R : Type 0} (format : Format R) (r : R) (lines : List Line) → IsWritten format r
    → records_of format (with_line (format.print r) lines) ≡ records_of format lines ++ r ∷ []
add-edit format r lines written =
    records-append format (map as_ended lines) (record { text = format.print r; ended = true } ∷ [])
    ∙ ap (λ front. front ++ records_of format (record { text = format.print r; ended = true } ∷ []))
    (records-ended format lines)
    ∙ ap (λ rest. records_of format lines ++ rest) (printed format (r ∷ []) (written, tt))

-- ---- Put

-- a line with a record, by whether the `put` names it
put-some :
    {R : Type 0} (format : Format R)
    → TellsSame format
    → (r s : R) (line : Line) (rest : List Line) (named : Bool)
    → format.read line.text ≡ Some s
    → IsWritten format r
    → records_of format (put_first format r rest)
    ≡ put_first_record format r (records_of format rest)
    → records_of format (if named then line_becomes format line s (r ∷ []) ++ rest else line
    ∷ put_first format r rest)
    ≡ (if named then r ∷ records_of format rest else s
    ∷ put_first_record format r (records_of format rest))
put-some format tells r s line rest true read written later =
    records-append format (line_becomes format line s (r ∷ [])) rest
    ∙ ap (λ front. front ++ records_of format rest)
    (line-becomes format tells line s (r ∷ []) read (written, tt))
put-some format tells r s line rest false read written later =
    rw read (ap (λ records. s ∷ records) later)

-- a line, by what it reads
put-by :
    {R : Type 0} (format : Format R)
    → TellsSame format
    → (r : R) (line : Line) (rest : List Line) (o : Option R)
    → format.read line.text ≡ o
    → IsWritten format r
    → records_of format (put_first format r rest)
    ≡ put_first_record format r (records_of format rest)
    → records_of format (elim o [
      | None ↦ line
          ∷ put_first format r rest
      | Some s ↦ if is_named format (format.name r) s
          then line_becomes format line s (r ∷ []) ++ rest else line ∷ put_first format r rest
    ])
    ≡ put_first_record format r (cons_option o (records_of format rest))
put-by format tells r line rest None read written later = rw read later
put-by format tells r line rest (Some s) read written later =
    put-some format tells r s line rest (is_named format (format.name r) s) read written later

-- the first record of a name becomes another
put-edit :
    {R : Type 0} (format : Format R)
    → TellsSame format
    → (r : R) (lines : List Line)
    → IsWritten format r
    → records_of format (put_first format r lines)
    ≡ put_first_record format r (records_of format lines)
put-edit format tells r [] written = refl
put-edit format tells r (line ∷ rest) written =
    put-by format tells r line rest (format.read line.text) refl written
    (put-edit format tells r rest written)

-- ---- Arrange

-- each text reads as the record at its place, and has its key
abbrev Stand : {R : Type 0} → Format R → (R → ℕ) → List Keyed → List R → Type 0
Stand format key [] [] = Unit {0}
Stand format key [] (r ∷ rs) = ⊥
Stand format key (x ∷ xs) [] = ⊥
Stand format key (x ∷ xs) (r ∷ rs) =
    (format.read x.text ≡ Some r) × (x.key ≡ key r) × Stand format key xs rs

-- the text of a line that may be a record, in front of the others
keyed-by :
    {R : Type 0} (format : Format R) (key : R → ℕ) (line : Line) (o : Option R)
    → format.read line.text ≡ o
    → (xs : List Keyed) (rs : List R)
    → Stand format key xs rs
    → Stand format key (cons_option (option_map (λ r. record { key = key r; text = line.text }) o)
    xs) (cons_option o rs)
keyed-by format key line None read xs rs stand = stand
keyed-by format key line (Some r) read xs rs stand = (read, refl, stand)

-- the texts of all records stand for them
keyed-stand :
    {R : Type 0} (format : Format R) (key : R → ℕ) (lines : List Line)
    → Stand format key (keyed_texts format key lines) (records_of format lines)
keyed-stand format key [] = tt
keyed-stand format key (line ∷ lines) =
    keyed-by format key line (format.read line.text) refl (keyed_texts format key lines)
    (records_of format lines) (keyed-stand format key lines)

-- a text in its place or behind
insert-by :
    {R : Type 0} (format : Format R) (key : R → ℕ) (x y : Keyed) (r s : R) (xs : List Keyed)
    (rs : List R) (first : Bool)
    → format.read x.text ≡ Some r
    → x.key ≡ key r
    → Stand format key (y ∷ xs) (s ∷ rs)
    → Stand format key (insert_by_key x xs) (insert_record key r rs)
    → Stand format key (if first then x ∷ y ∷ xs else y ∷ insert_by_key x xs)
    (if first then r ∷ s ∷ rs else s ∷ insert_record key r rs)
insert-by format key x y r s xs rs true read keyed stand later = (read, keyed, stand)
insert-by format key x y r s xs rs false read keyed stand later = (stand.0, stand.1, later)

-- a text and its record are put in the same place
insert-stand :
    {R : Type 0} (format : Format R) (key : R → ℕ) (x : Keyed) (r : R) (xs : List Keyed)
    (rs : List R)
    → format.read x.text ≡ Some r
    → x.key ≡ key r
    → Stand format key xs rs
    → Stand format key (insert_by_key x xs) (insert_record key r rs)
insert-stand format key x r [] [] read keyed stand = (read, keyed, tt)
insert-stand format key x r [] (s ∷ rs) read keyed stand = absurd stand
insert-stand format key x r (y ∷ xs) [] read keyed stand = absurd stand
insert-stand format key x r (y ∷ xs) (s ∷ rs) read keyed stand =
    subst (λ first. Stand format key (insert_by_key x (y ∷ xs))
    (if first then r ∷ s ∷ rs else s ∷ insert_record key r rs))
    (ap (λ n. nat_le n y.key) keyed ∙ ap (λ n. nat_le (key r) n) stand.1)
    (insert-by format key x y r s xs rs (nat_le x.key y.key) read keyed stand
    (insert-stand format key x r xs rs read keyed stand.2))

-- sorted texts stand for sorted records
sorted-stand : {R : Type 0} (format : Format R) (key : R → ℕ) (xs : List Keyed) (rs : List R)
    → Stand format key xs rs → Stand format key (sorted_by_key xs) (sorted_records key rs)
sorted-stand format key [] [] stand = tt
sorted-stand format key [] (r ∷ rs) stand = absurd stand
sorted-stand format key (x ∷ xs) [] stand = absurd stand
sorted-stand format key (x ∷ xs) (r ∷ rs) stand =
    insert-stand format key x r (sorted_by_key xs) (sorted_records key rs) stand.0 stand.1
    (sorted-stand format key xs rs stand.2)

-- a record more, in its place or behind
length-insert-by :
    {R : Type 0} (key : R → ℕ) (r s : R) (rs : List R) (first : Bool)
    → length (insert_record key r rs) ≡ suc (length rs)
    → length (if first then r ∷ s ∷ rs else s ∷ insert_record key r rs) ≡ suc (suc (length rs))
length-insert-by key r s rs true later = refl
length-insert-by key r s rs false later = ap suc later

-- a record more
length-insert :
    {R : Type 0} (key : R → ℕ) (r : R) (rs : List R)
    → length (insert_record key r rs) ≡ suc (length rs)
length-insert key r [] = refl
length-insert key r (s ∷ rs) =
    length-insert-by key r s rs (nat_le (key r) (key s)) (length-insert key r rs)

-- as many records as before
length-sorted :
    {R : Type 0} (key : R → ℕ) (rs : List R)
    → length (sorted_records key rs) ≡ length rs
length-sorted key [] = refl
length-sorted key (r ∷ rs) =
    length-insert key r (sorted_records key rs) ∙ ap suc (length-sorted key rs)

-- texts that stand for as many records as the lines have are read back from the places
places-by :
    {R : Type 0} (format : Format R) (key : R → ℕ) (x : Keyed) (r : R) (xs : List Keyed)
    (rs : List R) (line : Line) (lines : List Line) (o : Option R)
    → format.read line.text ≡ o
    → Stand format key (x ∷ xs) (r ∷ rs)
    → suc (length rs) ≡ length (cons_option o (records_of format lines))
    → (length rs ≡ length (records_of format lines)
    → records_of format (in_places format xs lines) ≡ rs)
    → (suc (length rs) ≡ length (records_of format lines)
    → records_of format (in_places format (x ∷ xs) lines) ≡ r ∷ rs)
    → records_of format (if is_some o then record line { text = x.text } ∷ in_places format xs lines
    else line ∷ in_places format (x ∷ xs) lines) ≡ r ∷ rs
places-by format key x r xs rs line lines None read stand as_many used kept = rw read (kept as_many)
places-by format key x r xs rs line lines (Some s) read stand as_many used kept =
    rw stand.0 (ap (λ rest. r ∷ rest) (used (ap pred as_many)))

-- texts that stand for records are read back from the places of records
places :
    {R : Type 0} (format : Format R) (key : R → ℕ) (xs : List Keyed) (rs : List R)
    (lines : List Line)
    → Stand format key xs rs
    → length rs ≡ length (records_of format lines)
    → records_of format (in_places format xs lines) ≡ rs
places format key xs rs [] stand as_many = sym (nil_from_length rs as_many)
places format key [] [] (line ∷ lines) stand as_many =
    nil_from_length (records_of format (line ∷ lines)) (sym as_many)
places format key [] (r ∷ rs) (line ∷ lines) stand as_many = absurd stand
places format key (x ∷ xs) [] (line ∷ lines) stand as_many = absurd stand
places format key (x ∷ xs) (r ∷ rs) (line ∷ lines) stand as_many =
    places-by format key x r xs rs line lines (format.read line.text) refl stand as_many
    (λ as_many. places format key xs rs lines stand.2 as_many)
    (λ as_many. places format key (x ∷ xs) (r ∷ rs) lines stand as_many)

-- records that are sorted
arrange-edit :
    {R : Type 0} (format : Format R) (key : R → ℕ) (lines : List Line)
    → records_of format (in_places format (sorted_by_key (keyed_texts format key lines)) lines)
    ≡ sorted_records key (records_of format lines)
arrange-edit format key lines =
    places format key (sorted_by_key (keyed_texts format key lines))
    (sorted_records key (records_of format lines)) lines
    (sorted-stand format key (keyed_texts format key lines) (records_of format lines)
    (keyed-stand format key lines))
    (length-sorted key (records_of format lines))

-- ---- Any edit

-- a record on demand, by whether its name is there
on-demand :
    {R : Type 0} (format : Format R) (r : R) (lines : List Line) (there : Bool)
    → IsWritten format r
    → records_of format (if there then lines else with_line (format.print r) lines)
    ≡ (if there then records_of format lines else records_of format lines ++ r ∷ [])
on-demand format r lines true written = refl
on-demand format r lines false written = add-edit format r lines written

-- a record that is put, by whether its name is there
put-or-add :
    {R : Type 0} (format : Format R)
    → TellsSame format
    → (r : R) (lines : List Line) (there : Bool)
    → IsWritten format r
    → records_of format (if there then put_first format r lines
    else with_line (format.print r) lines)
    ≡ (if there then put_first_record format r (records_of format lines)
    else records_of format lines ++ r ∷ [])
put-or-add format tells r lines true written = put-edit format tells r lines written
put-or-add format tells r lines false written = add-edit format r lines written

-- an edit of lines is the same edit of their records
pub edit-is :
    {R : Type 0} (format : Format R)
    → TellsSame format
    → (edit : Edit R) (lines : List Line)
    → AllByRecursion (λ line. Lacks newline line.text) lines
    → IsWrittenEdit format edit
    → records_of format (edited format lines edit)
    ≡ records_edited format (records_of format lines) edit
edit-is format tells (Become f) lines apart written = become-edit format tells f lines apart written
edit-is format tells (Add r) lines apart written = add-edit format r lines written
edit-is format tells (AddMissing r) lines apart written =
    on-demand format r lines (has_named format (format.name r) (records_of format lines)) written
edit-is format tells (Put r) lines apart written =
    put-or-add format tells r lines (has_named format (format.name r)
    (records_of format lines)) written
edit-is format tells (Arrange key) lines apart written = arrange-edit format key lines
