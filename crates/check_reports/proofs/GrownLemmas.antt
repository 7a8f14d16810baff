-- Claim: a table with a new record has its lines and its name (`grown-more`, `more-grown`), and one that has the name
-- stays (`grown-has`, `grown-known`); line by line they are all edits (`grown-walk`, `written-walk`). Way: by what the
-- line reads as.
use Rattle.std.proofs.Common.{◌≡◌, ◌∙◌, ℕ, ◌+◌, ◌-◌, length, Bool, true, false, List, [], ◌∷◌, ◌++◌, append_assoc, length-append, refl, sym, ap, subst, arith}
use Rattle.std.specs.Prelude.{◌||◌, ◌==◌, Option, None, Some, bytes_eq, slice_get, is_some, option_to_list, if◌then◌else◌}
use Rattle.std.specs.List.{AllByRecursion, cons_option}
use Rattle.std.specs.Option.{option_or}
use Rattle.std.proofs.Math.Bool.{or-false}
use Rattle.std.proofs.lemmas.List.Folds.{find-append}
use Rattle.std.proofs.lemmas.Slice.Eq.{bytes_eq-Decides}
use Rattle.acct_text.specs.Bytes.{newline}
use Rattle.acct_text.specs.Lines.{Line, file_bytes, lines_of}
use Rattle.acct_text.proofs.LinesLaws.{lines_of-are}
use Rattle.account_model.specs.Edits.{Add, edited, edited_by, with_line}
use Rattle.account_model.specs.Format.{Format, find_named, has_named, is_named, records_of}
use Rattle.account_model.specs.RecordEdits.{IsWrittenEdit, TellsSame}
use Rattle.account_model.specs.Written.{IsWritten}
use Rattle.account_model.proofs.EditLaws.{edit-is}
use Rattle.acct_tables.specs.NameIndex.{TellsOf, line_names, told}
use Rattle.acct_tables.specs.SeenLines.{end_for, missing_end}
use Rattle.acct_tables.proofs.EditedFiles.{edit-found}
use Rattle.acct_tables.proofs.LinesAhead.{appended, last-tells}
use Rattle.acct_tables.proofs.NamedRecords.{told-has}
use Rattle.check_reports.specs.declared.making.Grown.{Grown}
use Rattle.check_reports.specs.Gathered.{IsGrown, made_edits}

-- a name is found with one more record, where it is told or found with one more main record
told-more :
    {M H : Type 0} (found : Option H) (there same : Bool) (h : H) (m : M) (before : Option M)
    → is_some found ≡ (there || is_some before)
    → is_some (option_or found (if same then Some h else None))
    ≡ (there || is_some (option_or before (if same then Some m else None)))
told-more None true same h m before is = absurd cc
told-more None false true h m None is = refl
told-more None false false h m None is = refl
told-more None false same h m (Some other) is = absurd cc
told-more (Some found) true same h m before is = refl
told-more (Some found) false same h m None is = absurd cc
told-more (Some found) false same h m (Some other) is = refl

-- one more main record changes nothing where its name is told or found
told-same :
    {M : Type 0} (there same : Bool) (m : M) (before : Option M)
    → (same ≡ true → (there || is_some before) ≡ true)
    → (there || is_some before)
    ≡ (there || is_some (option_or before (if same then Some m else None)))
told-same true same m before known = refl
told-same false true m None known = known refl
told-same false false m None known = refl
told-same false same m (Some other) known = refl

-- neither of two
pub second-false : (a b : Bool) → a ≡ false → (a || b) ≡ b
second-false true b none = absurd cc
second-false false b none = refl

-- what is missing behind a text with this last byte
pub ended-by :
    (text slice : List ℕ) (last : ℕ)
    → slice ≡ text
    → Some last ≡ slice_get slice (length slice - 1)
    → missing_end text ≡ (if last == newline then [] else newline ∷ [])
ended-by text slice last is found =
    ap missing_end (sym is) ∙ sym (last-tells slice) ∙ ap end_for (sym found)

-- a line that is pushed piece by piece is appended
pub line-pushed :
    (old line first second third : List ℕ)
    → first ≡ old ++ missing_end old
    → second ≡ first ++ line
    → third ≡ second ++ newline ∷ []
    → third ≡ file_bytes (with_line line (lines_of old))
line-pushed old line first second third ended pushed closed =
    let end = missing_end old in
    closed
    ∙ ap (λ bytes. bytes ++ newline ∷ [])
    (pushed ∙ ap (λ bytes. bytes ++ line) ended ∙ append_assoc old end line)
    ∙ append_assoc old (end ++ line) (newline ∷ [])
    ∙ appended old line ((end ++ line) ++ newline ∷ []) refl

module _ {M H : Type 0} (main : Format M) (format : Format H) (make : M → H) where
  -- the edits of a line's record come first
  pub grown-walk :
      (found : Option M) (rest : List M) (lines new : List Line)
      → new ≡ edited_by format (made_edits make (option_to_list found)) lines
      → edited_by format (made_edits make rest) new
      ≡ edited_by format (made_edits make (cons_option found rest)) lines
  grown-walk None rest lines new is = ap (edited_by format (made_edits make rest)) is
  grown-walk (Some m) rest lines new is = ap (edited_by format (made_edits make rest)) is

  -- and print what reads back, as the others do
  pub written-walk :
      (found : Option M) (rest : List M)
      → AllByRecursion (IsWrittenEdit format) (made_edits make (cons_option found rest))
      → AllByRecursion (IsWrittenEdit format) (made_edits make (option_to_list found))
      × AllByRecursion (IsWrittenEdit format) (made_edits make rest)
  written-walk None rest written = (tt, written)
  written-walk (Some m) rest written = ((written.0, tt), written.1)

  module _ (named : (m : M) → format.name (make m) ≡ main.name m) where
    -- one whose name is there makes none
    pub grown-has :
        (found : Option M) (m : M) (lines : List Line)
        → Some m ≡ found
        → has_named format (main.name m) (records_of format lines) ≡ true
        → lines ≡ edited_by format (made_edits make (option_to_list found)) lines
    grown-has None m lines reads has = absurd cc
    grown-has (Some other) m lines reads has =
        let one : m ≡ other = cc in
        rw (subst (λ name. has_named format name (records_of format lines) ≡ true)
        (ap main.name one ∙ sym (named other)) has) refl

    module _ (no_blank : format.read [] ≡ None) (tells : TellsSame format) (m : M)
        (written : IsWritten format (make m)) (old new : Grown)
        (is : new.text ≡ file_bytes (with_line (format.print (make m)) (lines_of old.text))) where
      -- the lines with one more
      more-lines : lines_of new.text ≡ edited format (lines_of old.text) (Add (make m))
      more-lines = edit-found format no_blank (Add (make m)) written old.text new.text is

      -- the new line is that of the record
      pub grown-more :
          (found : Option M)
          → Some m ≡ found
          → has_named format (main.name m) (records_of format (lines_of old.text)) ≡ false
          → lines_of new.text
          ≡ edited_by format (made_edits make (option_to_list found)) (lines_of old.text)
      grown-more None reads lacks = absurd cc
      grown-more (Some other) reads lacks =
          let one : m ≡ other = cc in
          more-lines
          ∙ (rw (
            subst (λ name. has_named format name (records_of format (lines_of old.text)) ≡ false)
                (ap main.name one ∙ sym (named other)) lacks,
            one,
          ) refl)

      -- and its name is that of one main record more
      pub more-grown :
          (before : List M)
          → IsGrown main format before old
          → new.there ≡ old.there
          → new.place ≡ old.place + 1
          → IsGrown main format (before ++ m ∷ []) new
      more-grown before grown there placed = record {
        names = λ other.
            ap (has_named format other) (ap (records_of format) more-lines
            ∙ edit-is format tells (Add (make m)) (lines_of old.text) (lines_of-are old.text).apart
            written)
            ∙ ap is_some (find-append (is_named format other)
            (records_of format (lines_of old.text)) (make m ∷ []))
            ∙ ap (λ name. is_some (option_or
            (find_named format other (records_of format (lines_of old.text)))
            (if bytes_eq name other then Some (make m) else None))) (named m)
            ∙ told-more (find_named format other (records_of format (lines_of old.text)))
            (is_some (told old.there other)) (bytes_eq (main.name m) other) (make m) m
            (find_named main other before) (grown.names other)
            ∙ ap (λ found. is_some (told old.there other) || is_some found)
            (sym (find-append (is_named main other) before (m ∷ [])))
            ∙ ap (λ there. is_some (told there other) || has_named main other (before ++ m ∷ []))
            (sym there);
        counted = placed ∙ omega (arith, grown.counted, length-append before (m ∷ []));
      }

-- what is made of a record that is found prints as a line that reads back
pub made-written :
    {M H : Type 0} (format : Format H) (make : M → H) (found : Option M) (m : M)
    → Some m ≡ found
    → AllByRecursion (IsWrittenEdit format) (made_edits make (option_to_list found))
    → IsWritten format (make m)
made-written format make None m is written = absurd cc
made-written format make (Some other) m is written =
    let same : m ≡ other = cc in subst (λ m. IsWritten format (make m)) (sym same) written.0

-- a table to which nothing was added is told
pub grown-fresh :
    {M H : Type 0} (main : Format M) (format : Format H) (grown : Grown) (text : List ℕ)
    → grown.text ≡ text
    → TellsOf (line_names format (lines_of text)) (told grown.there)
    → grown.place ≡ 0
    → IsGrown main format [] grown
grown-fresh main format grown text is there placed = record {
  names = λ name.
      ap (λ text. has_named format name (records_of format (lines_of text))) is
      ∙ sym (ap is_some (there name) ∙ told-has format name (lines_of text))
      ∙ sym (or-false (is_some (told grown.there name)));
  counted = placed;
}

-- nor to one that knows the name of the main record
pub grown-known :
    {M H : Type 0} (main : Format M) (format : Format H) (before : List M) (m : M)
    (old new : Grown)
    → (is_some (told old.there (main.name m)) || has_named main (main.name m) before) ≡ true
    → IsGrown main format before old
    → new.text ≡ old.text
    → new.there ≡ old.there
    → new.place ≡ old.place + 1
    → IsGrown main format (before ++ m ∷ []) new
grown-known main format before m old new known grown is there placed = record {
  names = λ other.
      ap (λ text. has_named format other (records_of format (lines_of text))) is
      ∙ grown.names other
      ∙ told-same (is_some (told old.there other)) (bytes_eq (main.name m) other) m
      (find_named main other before)
      (λ same. subst (λ name. (is_some (told old.there name) || has_named main name before) ≡ true)
      ((bytes_eq-Decides (main.name m) other).0 same) known)
      ∙ ap (λ found. is_some (told old.there other) || is_some found)
      (sym (find-append (is_named main other) before (m ∷ [])))
      ∙ ap (λ there. is_some (told there other) || has_named main other (before ++ m ∷ []))
      (sym there);
  counted = placed ∙ omega (arith, grown.counted, length-append before (m ∷ []));
}
