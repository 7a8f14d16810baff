-- Claim: the lines after an edit are the lines of their own bytes (`edited-lines`), so the records of
-- the new file are those of the old one, edited (`table-edited`). Way: each edit leaves no newline in
-- a text, and an end behind each line but the last (`fine-edit`).
use Rattle.std.proofs.Common.{◌≡◌, ℕ, ◌<◌, Bool, true, false, List, [], ◌∷◌, ◌++◌, length, map, refl, sym, ◌∙◌, ap, arith}
use Rattle.std.specs.Prelude.{Option, Some, None, flat_map, nat_le, is_some, option_map, fold, if◌then◌else◌}
use Rattle.std.specs.List.{AllByRecursion, cons_option}
use Rattle.acct_text.specs.Bytes.{newline}
use Rattle.acct_text.specs.Pieces.{Lacks}
use Rattle.acct_text.specs.Lines.{Line, AreEnded, AreLines, file_bytes, lines_of}
use Rattle.account_model.specs.Format.{Format, records_of, is_named, has_named}
use Rattle.account_model.specs.Edits.{Edit, Become, Add, AddMissing, Put, Arrange, line_becomes, becomes, as_ended, with_line, put_first, edited, edited_by, Keyed, keyed_texts, insert_by_key, sorted_by_key, in_places}
use Rattle.account_model.specs.Written.{IsWritten}
use Rattle.account_model.specs.Tables.{table_records, table_after}
use Rattle.acct_text.proofs.LinesLaws.{lines_of-only}
use Rattle.account_model.proofs.EditLaws.{edit-is}
use Rattle.account_model.proofs.FineLines.{AllEnded, AreApart, Fine, Good, all-append, all-are, ended-append, fine-lines, fine-rest, fine-step, good-itself}
use Rattle.account_model.specs.RecordEdits.{records_edited, IsWrittenEdit, TellsSame}

-- ---- Printed records

-- the text of a record isn't empty
some-text :
    {R : Type 0} (format : Format R)
    → format.read [] ≡ None
    → (text : List ℕ) (r : R)
    → format.read text ≡ Some r
    → 0 < length text
some-text format none [] r read = let wrong = sym none ∙ read in cc
some-text format none (b ∷ text) r read = omega arith

-- printed lines have ends
printed-ended :
    {R : Type 0} (format : Format R) (records : List R)
    → AllEnded (map (λ u. record { text = format.print u; ended = true }) records)
printed-ended format [] = tt
printed-ended format (r ∷ records) = (refl, printed-ended format records)

-- printed lines have no newline in them
printed-apart :
    {R : Type 0} (format : Format R) (records : List R)
    → AllByRecursion (IsWritten format) records
    → AreApart (map (λ u. record { text = format.print u; ended = true }) records)
printed-apart format [] written = tt
printed-apart format (r ∷ records) written =
    (written.0.one_line, printed-apart format records written.1)

-- ---- Become

-- one line, as it was or printed
one-apart :
    {R : Type 0} (format : Format R) (line : Line) (s : R) (same : Bool)
    → Lacks newline line.text
    → IsWritten format s
    → AreApart (if same then line ∷ [] else record line { text = format.print s } ∷ [])
one-apart format line s true apart written = (apart, tt)
one-apart format line s false apart written = (written.one_line, tt)

-- the lines that a line becomes
line-apart :
    {R : Type 0} (format : Format R) (line : Line) (r : R) (news : List R)
    → Lacks newline line.text
    → AllByRecursion (IsWritten format) news
    → AreApart (line_becomes format line r news)
line-apart format line r [] apart written = tt
line-apart format line r (s ∷ []) apart written =
    one-apart format line s (format.same r s) apart written.0
line-apart format line r (s ∷ t ∷ rest) apart written = printed-apart format (s ∷ t ∷ rest) written

-- one line keeps its end
one-ended : {R : Type 0} (format : Format R) (line : Line) (s : R) (same : Bool) → line.ended ≡ true
    → AllEnded (if same then line ∷ [] else record line { text = format.print s } ∷ [])
one-ended format line s true ended = (ended, tt)
one-ended format line s false ended = (ended, tt)

-- of an ended line all have ends
line-ended :
    {R : Type 0} (format : Format R) (line : Line) (r : R) (news : List R)
    → line.ended ≡ true
    → AllEnded (line_becomes format line r news)
line-ended format line r [] ended = tt
line-ended format line r (s ∷ []) ended = one-ended format line s (format.same r s) ended
line-ended format line r (s ∷ t ∷ rest) ended = printed-ended format (s ∷ t ∷ rest)

-- one line keeps the want of an end
one-last :
    {R : Type 0} (format : Format R)
    → format.read [] ≡ None
    → (line : Line) (s : R) (same : Bool)
    → IsWritten format s
    → AreEnded (line ∷ [])
    → AreEnded (if same then line ∷ [] else record line { text = format.print s } ∷ [])
one-last format none line s true written are = are
one-last format none line s false written are =
    λ e. some-text format none (format.print s) s written.reads

-- of a last line all are ended as lines are
line-last :
    {R : Type 0} (format : Format R)
    → format.read [] ≡ None
    → (line : Line) (r : R) (news : List R)
    → AllByRecursion (IsWritten format) news
    → AreEnded (line ∷ [])
    → AreEnded (line_becomes format line r news)
line-last format none line r [] written are = tt
line-last format none line r (s ∷ []) written are =
    one-last format none line s (format.same r s) written.0 are
line-last format none line r (s ∷ t ∷ rest) written are = all-are
    (map (λ u. record { text = format.print u; ended = true }) (s ∷ t ∷ rest))
    (printed-ended format (s ∷ t ∷ rest))

-- a line of a record
good-line :
    {R : Type 0} (format : Format R)
    → format.read [] ≡ None
    → (line : Line) (r : R) (news : List R)
    → AllByRecursion (IsWritten format) news
    → Good line (line_becomes format line r news)
good-line format none line r news written = record {
  apart = λ apart. line-apart format line r news apart written;
  all = line-ended format line r news;
  last = line-last format none line r news written;
}

-- a line, by what it reads
good-becomes :
    {R : Type 0} (format : Format R)
    → format.read [] ≡ None
    → (f : R → List R) (line : Line) (o : Option R)
    → Lacks newline line.text
    → format.read line.text ≡ o
    → ((text : List ℕ) (r : R) → Lacks newline text → format.read text ≡ Some r
    → AllByRecursion (IsWritten format) (f r))
    → Good line (elim o [ None ↦ line ∷ [] | Some r ↦ line_becomes format line r (f r) ])
good-becomes format none f line None apart read written = good-itself line
good-becomes format none f line (Some r) apart read written =
    good-line format none line r (f r) (written line.text r apart read)

-- records that become others
fine-become :
    {R : Type 0} (format : Format R)
    → format.read [] ≡ None
    → (f : R → List R) (lines : List Line)
    → ((text : List ℕ) (r : R) → Lacks newline text → format.read text ≡ Some r
    → AllByRecursion (IsWritten format) (f r))
    → Fine lines
    → Fine (flat_map (becomes format f) lines)
fine-become format none f [] written fine = fine
fine-become format none f (line ∷ rest) written fine =
    fine-step line rest (becomes format f line) (flat_map (becomes format f) rest) fine
    (good-becomes format none f line (format.read line.text) fine.apart.0 refl written)
    (λ empty. ap (flat_map (becomes format f)) empty)
    (fine-become format none f rest written (fine-rest line rest fine))

-- ---- Add

-- lines with ends, apart
ended-apart : (lines : List Line) → AreApart lines → AreApart (map as_ended lines)
ended-apart [] apart = tt
ended-apart (line ∷ lines) apart = (apart.0, ended-apart lines apart.1)

-- lines with ends, all ended
ended-all : (lines : List Line) → AllEnded (map as_ended lines)
ended-all [] = tt
ended-all (line ∷ lines) = (refl, ended-all lines)

-- a line that is added
fine-add :
    (text : List ℕ) (lines : List Line)
    → Lacks newline text
    → Fine lines
    → Fine (with_line text lines)
fine-add text lines lacks fine = record {
  apart = all-append (λ line. Lacks newline line.text) (map as_ended lines)
      (record { text = text; ended = true } ∷ []) (ended-apart lines fine.apart) (lacks, tt);
  ended = ended-append (map as_ended lines) (record { text = text; ended = true } ∷ [])
      (ended-all lines) (λ e. cc);
}

-- ---- Put

-- no lines to put in
put-none :
    {R : Type 0} (format : Format R) (r : R) (rest : List Line)
    → rest ≡ []
    → put_first format r rest ≡ []
put-none format r [] empty = refl
put-none format r (line ∷ rest) empty = cc

-- a line with a record, by whether the `put` names it
fine-some :
    {R : Type 0} (format : Format R)
    → format.read [] ≡ None
    → (r s : R) (line : Line) (rest : List Line) (named : Bool)
    → IsWritten format r
    → Fine (line ∷ rest)
    → Fine (put_first format r rest)
    → Fine (if named then line_becomes format line s (r ∷ []) ++ rest else line
    ∷ put_first format r rest)
fine-some format none r s line rest true written fine later =
    fine-step line rest (line_becomes format line s (r ∷ [])) rest fine
    (good-line format none line s (r ∷ []) (written, tt)) (λ empty. empty)
    (fine-rest line rest fine)
fine-some format none r s line rest false written fine later =
    fine-step line rest (line ∷ []) (put_first format r rest) fine (good-itself line)
    (put-none format r rest) later

-- a line, by what it reads
fine-put-by :
    {R : Type 0} (format : Format R)
    → format.read [] ≡ None
    → (r : R) (line : Line) (rest : List Line) (o : Option R)
    → IsWritten format r
    → Fine (line ∷ rest)
    → Fine (put_first format r rest)
    → Fine (elim o [
      | None ↦ line ∷ put_first format r rest
      | Some s ↦ if is_named format
          (format.name r) s then line_becomes format line s (r ∷ []) ++ rest else line
          ∷ put_first format r rest
    ])
fine-put-by format none r line rest None written fine later =
    fine-step line rest (line ∷ []) (put_first format r rest) fine (good-itself line)
    (put-none format r rest) later
fine-put-by format none r line rest (Some s) written fine later =
    fine-some format none r s line rest (is_named format (format.name r) s) written fine later

-- the first record of a name becomes another
fine-put :
    {R : Type 0} (format : Format R)
    → format.read [] ≡ None
    → (r : R) (lines : List Line)
    → IsWritten format r
    → Fine lines
    → Fine (put_first format r lines)
fine-put format none r [] written fine = fine
fine-put format none r (line ∷ rest) written fine =
    fine-put-by format none r line rest (format.read line.text) written fine
    (fine-put format none r rest written (fine-rest line rest fine))

-- ---- Arrange

-- a text that may stand in any place
abbrev IsPlaceable : Keyed → Type 0
IsPlaceable x = Lacks newline x.text × (0 < length x.text)

-- the text of a line that may be a record, in front of the others
keyed-placeable-by :
    {R : Type 0} (format : Format R)
    → format.read [] ≡ None
    → (key : R → ℕ) (line : Line) (o : Option R)
    → format.read line.text ≡ o
    → Lacks newline line.text
    → (xs : List Keyed)
    → AllByRecursion IsPlaceable xs
    → AllByRecursion IsPlaceable (cons_option
    (option_map (λ r. record { key = key r; text = line.text }) o) xs)
keyed-placeable-by format none key line None read apart xs all = all
keyed-placeable-by format none key line (Some r) read apart xs all =
    ((apart, some-text format none line.text r read), all)

-- the texts of all records
keyed-placeable :
    {R : Type 0} (format : Format R)
    → format.read [] ≡ None
    → (key : R → ℕ) (lines : List Line)
    → AreApart lines
    → AllByRecursion IsPlaceable (keyed_texts format key lines)
keyed-placeable format none key [] apart = tt
keyed-placeable format none key (line ∷ lines) apart =
    keyed-placeable-by format none key line (format.read line.text) refl apart.0
    (keyed_texts format key lines) (keyed-placeable format none key lines apart.1)

-- a text in its place or behind
insert-placeable-by :
    (x y : Keyed) (xs : List Keyed) (first : Bool)
    → IsPlaceable x
    → AllByRecursion IsPlaceable (y ∷ xs)
    → AllByRecursion IsPlaceable (insert_by_key x xs)
    → AllByRecursion IsPlaceable (if first then x ∷ y ∷ xs else y ∷ insert_by_key x xs)
insert-placeable-by x y xs true is all later = (is, all)
insert-placeable-by x y xs false is all later = (all.0, later)

-- a text in its place
insert-placeable :
    (x : Keyed) (xs : List Keyed)
    → IsPlaceable x
    → AllByRecursion IsPlaceable xs
    → AllByRecursion IsPlaceable (insert_by_key x xs)
insert-placeable x [] is all = (is, tt)
insert-placeable x (y ∷ xs) is all =
    insert-placeable-by x y xs (nat_le x.key y.key) is all (insert-placeable x xs is all.1)

-- sorted texts
sorted-placeable :
    (xs : List Keyed)
    → AllByRecursion IsPlaceable xs
    → AllByRecursion IsPlaceable (sorted_by_key xs)
sorted-placeable [] all = tt
sorted-placeable (x ∷ xs) all =
    insert-placeable x (sorted_by_key xs) all.0 (sorted-placeable xs all.1)

-- no places
places-none :
    {R : Type 0} (format : Format R) (xs : List Keyed) (lines : List Line)
    → lines ≡ []
    → in_places format xs lines ≡ []
places-none format xs [] empty = refl
places-none format xs (line ∷ lines) empty = cc

-- a text in the place of another
good-placed :
    (line : Line) (x : Keyed)
    → IsPlaceable x
    → Good line (record line { text = x.text } ∷ [])
good-placed line x is = record {
  apart = λ apart. (is.0, tt);
  all = λ ended. (ended, tt);
  last = λ are e. is.1;
}

-- a place, by whether it is a record's
fine-places-by :
    {R : Type 0} (format : Format R) (x : Keyed) (xs : List Keyed) (line : Line) (lines : List Line)
    (reads : Bool)
    → IsPlaceable x
    → Fine (line ∷ lines)
    → Fine (in_places format xs lines)
    → Fine (in_places format (x ∷ xs) lines)
    → Fine (if reads then record line { text = x.text } ∷ in_places format xs lines else line
    ∷ in_places format (x ∷ xs) lines)
fine-places-by format x xs line lines true is fine used kept =
    fine-step line lines (record line { text = x.text } ∷ []) (in_places format xs lines) fine
    (good-placed line x is) (places-none format xs lines) used
fine-places-by format x xs line lines false is fine used kept =
    fine-step line lines (line ∷ []) (in_places format (x ∷ xs) lines) fine (good-itself line)
    (places-none format (x ∷ xs) lines) kept

-- texts in the places of records
fine-places :
    {R : Type 0} (format : Format R) (xs : List Keyed) (lines : List Line)
    → AllByRecursion IsPlaceable xs
    → Fine lines
    → Fine (in_places format xs lines)
fine-places format xs [] all fine = fine
fine-places format [] (line ∷ lines) all fine = fine
fine-places format (x ∷ xs) (line ∷ lines) all fine =
    fine-places-by format x xs line lines (is_some (format.read line.text)) all.0 fine
    (fine-places format xs lines all.1 (fine-rest line lines fine))
    (fine-places format (x ∷ xs) lines all (fine-rest line lines fine))

-- ---- Any edits

-- one of two ways
fine-either : (a b : List Line) (there : Bool) → Fine a → Fine b → Fine (if there then a else b)
fine-either a b true fine_a fine_b = fine_a
fine-either a b false fine_a fine_b = fine_b

-- any edit leaves lines apart and ended
pub fine-edit :
    {R : Type 0} (format : Format R)
    → format.read [] ≡ None
    → (edit : Edit R) (lines : List Line)
    → IsWrittenEdit format edit
    → Fine lines
    → Fine (edited format lines edit)
fine-edit format none (Become f) lines written fine = fine-become format none f lines written fine
fine-edit format none (Add r) lines written fine =
    fine-add (format.print r) lines written.one_line fine
fine-edit format none (AddMissing r) lines written fine =
    fine-either lines (with_line (format.print r) lines)
    (has_named format (format.name r) (records_of format lines)) fine
    (fine-add (format.print r) lines written.one_line fine)
fine-edit format none (Put r) lines written fine =
    fine-either (put_first format r lines) (with_line (format.print r) lines)
    (has_named format (format.name r) (records_of format lines))
    (fine-put format none r lines written fine)
    (fine-add (format.print r) lines written.one_line fine)
fine-edit format none (Arrange key) lines written fine =
    fine-places format (sorted_by_key (keyed_texts format key lines)) lines
    (sorted-placeable (keyed_texts format key lines)
    (keyed-placeable format none key lines fine.apart)) fine

-- and so do edits in their order
fine-edits :
    {R : Type 0} (format : Format R)
    → format.read [] ≡ None
    → (edits : List (Edit R)) (lines : List Line)
    → AllByRecursion (IsWrittenEdit format) edits
    → Fine lines
    → Fine (edited_by format edits lines)
fine-edits format none [] lines written fine = fine
fine-edits format none (edit ∷ edits) lines written fine =
    fine-edits format none edits (edited format lines edit) written.1
    (fine-edit format none edit lines written.0 fine)

-- the edited lines are the lines of the new file
pub edited-lines :
    {R : Type 0} (format : Format R)
    → format.read [] ≡ None
    → (edits : List (Edit R)) (bytes : List ℕ)
    → AllByRecursion (IsWrittenEdit format) edits
    → AreLines (file_bytes (edited_by format edits (lines_of bytes)))
    (edited_by format edits (lines_of bytes))
edited-lines format none edits bytes written =
    let fine = fine-edits format none edits (lines_of bytes) written (fine-lines bytes) in
    record { joined = refl; apart = fine.apart; ended = fine.ended }

-- the records after edits in their order
edited-records :
    {R : Type 0} (format : Format R)
    → TellsSame format
    → format.read [] ≡ None
    → (edits : List (Edit R)) (lines : List Line)
    → Fine lines
    → AllByRecursion (IsWrittenEdit format) edits
    → records_of format (edited_by format edits lines)
    ≡ fold (records_edited format) (records_of format lines) edits
edited-records format tells none [] lines fine written = refl
edited-records format tells none (edit ∷ edits) lines fine written =
    edited-records format tells none edits (edited format lines edit)
    (fine-edit format none edit lines written.0 fine) written.1
    ∙ ap (λ records. fold (records_edited format) records edits)
    (edit-is format tells edit lines fine.apart written.0)

-- the records of a table after its edits are those of the table, edited
pub table-edited :
    {R : Type 0} (format : Format R)
    → TellsSame format
    → format.read [] ≡ None
    → (edits : List (Edit R)) (bytes : List ℕ)
    → AllByRecursion (IsWrittenEdit format) edits
    → table_records format (table_after format edits (Some bytes))
    ≡ fold (records_edited format) (table_records format (Some bytes)) edits
table-edited format tells none edits bytes written =
    ap (records_of format) (lines_of-only (file_bytes (edited_by format edits (lines_of bytes)))
    (edited_by format edits (lines_of bytes)) (edited-lines format none edits bytes written))
    ∙ edited-records format tells none edits (lines_of bytes) (fine-lines bytes) written
