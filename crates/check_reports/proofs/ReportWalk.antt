-- Claim: a report that takes the problems of line after line has at the end those of the table
-- (`report-more`, `report-end`, `report-in-lines`), and of each record it is told whether one
-- before it has its name (`tells-before`). Way: problems one after another are taken as all at once
-- (`problems-after`), those of a line come first of those that are left (`line-told`), and its name
-- is noted before they are told.
use Rattle.std.proofs.Common.{◌≡◌, ◌∙◌, ℕ, ◌+◌, ◌^◌, ◌<◌, Bool, true, false, List, [], ◌∷◌, ◌++◌, length, length-append, refl, sym, ap, ap₂, subst, arith, append-nil, append_assoc}
use Rattle.std.specs.Prelude.{◌&&◌, Option, None, Some, not, option_map, if◌then◌else◌}
use Rattle.std.specs.Option.{option_copied}
use Rattle.std.proofs.lemmas.List.{length-map, map-append}
use Rattle.std.proofs.lemmas.List.Concat.{flat_map-append}
use Rattle.std.proofs.lemmas.List.Elements.{filter-append}
use Rattle.acct_text.specs.declared.Tab.{Tab}
use Rattle.acct_text.specs.Bytes.{is_empty}
use Rattle.acct_text.specs.Lines.{Line}
use Rattle.account_model.specs.Format.{Format, has_named, records_of}
use Rattle.account_model.specs.Problems.{DuplicateName, InvalidEntry, Located, Problem, RecordProblems, at_line, duplicate_name, is_nis, is_notice, problem_if, problem_line, problem_lines, problems_behind, problems_of_line, table_problems}
use Rattle.acct_tables.specs.declared.name_index.NameIndex.{NameIndex}
use Rattle.acct_tables.specs.NameIndex.{IsLineNoted, TellsOf, TellsAtMost, begins_before, line_name, line_names, told}
use Rattle.acct_tables.proofs.NameIndexLemmas.{told-within}
use Rattle.account_model.specs.Tables.{table_lines}
use Rattle.check_reports.specs.declared.known.NamedFile.{NamedFile}
use Rattle.check_reports.specs.declared.report.Checked.{Checked}
use Rattle.check_reports.specs.declared.report.Report.{Report}
use Rattle.check_reports.specs.Known.{HasNoted, IsWhole, NotesLine, TellsBefore}
use Rattle.check_reports.specs.Reported.{IsChecked, repeated_name, to_show, with_problems}
use Rattle.check_reports.proofs.KnownLemmas.{before-by, next-by, whole-by}
use Rattle.check_reports.proofs.RecordWalk.{HaveTaken}

-- ---- Problems

-- what is shown of problems behind others
shown-append :
    (is_quiet : Bool) (first second : List Located)
    → to_show is_quiet (first ++ second) ≡ to_show is_quiet first ++ to_show is_quiet second
shown-append true first second =
    filter-append (λ located. not (is_notice located.problem)) first second
shown-append false first second = refl

-- none of no problem is shown
none-shown : (is_quiet : Bool) → to_show is_quiet [] ≡ []
none-shown true = refl
none-shown false = refl

-- problems behind others leave nothing clean that either doesn't
pub clean-append :
    (is_clean : Bool) (first second : List Located)
    → ((is_clean && is_empty first) && is_empty second) ≡ (is_clean && is_empty (first ++ second))
clean-append true [] second = refl
clean-append true (located ∷ first) second = refl
clean-append false first second = refl

-- without a problem it is as clean as before
as-clean : (is_clean : Bool) → (is_clean && true) ≡ is_clean
as-clean true = refl
as-clean false = refl

module _ (tab : Tab) where
  -- problems one after another are taken as all at once
  pub problems-after :
      (first second : List Located) (report : Report)
      → with_problems tab second (with_problems tab first report)
      ≡ with_problems tab (first ++ second) report
  problems-after first second report =
      let is_quiet = report.is_quiet in
      let lines : (report.lines ++ problem_lines tab (to_show is_quiet first))
      ++ problem_lines tab (to_show is_quiet second)
      ≡ report.lines ++ problem_lines tab (to_show is_quiet (first ++ second)) =
      append_assoc report.lines (problem_lines tab (to_show is_quiet first))
      (problem_lines tab (to_show is_quiet second))
      ∙ ap (λ back. report.lines ++ back)
      (sym (flat_map-append (problem_line tab) (to_show is_quiet first) (to_show is_quiet second)))
      ∙ ap (λ problems. report.lines ++ problem_lines tab problems)
      (sym (shown-append is_quiet first second)) in
      λ i. record {
        is_quiet = is_quiet;
        is_clean = clean-append report.is_clean first second i;
        lines = lines i;
      }

  -- without a problem the report stays
  pub no-problem : (report : Report) → with_problems tab [] report ≡ report
  no-problem report =
      let lines : report.lines ++ problem_lines tab (to_show report.is_quiet []) ≡ report.lines =
      ap (λ problems. report.lines ++ problem_lines tab problems) (none-shown report.is_quiet)
      ∙ append-nil report.lines in
      λ i. record {
        is_quiet = report.is_quiet;
        is_clean = as-clean report.is_clean i;
        lines = lines i;
      }

-- ---- A line

module _ {R : Type 0} (format : Format R) (problems : RecordProblems R)
    (repeats : (earlier : List R) (r : R)
    → problems earlier r ≡ duplicate_name format earlier r ++ problems [] r)
    (tab : Tab) (names : NameIndex) (place : ℕ) (before : List R) (text : List ℕ) where
  -- by what the line reads as
  found-by :
      (kept : Option R)
      → ((r : R)
      → kept ≡ Some r
      → has_named format (format.name r) before
      ≡ begins_before place (told names (format.name r)))
      → repeated_name names place (option_map format.name kept)
      ++ (elim kept [ None ↦ InvalidEntry ∷ [] | Some r ↦ problems [] r ])
      ≡ (elim kept [ None ↦ InvalidEntry ∷ [] | Some r ↦ problems before r ])
  found-by None tells = refl
  found-by (Some r) tells =
      ap (λ test. problem_if test (DuplicateName (format.name r)) ++ problems [] r)
      (sym (tells r refl))
      ∙ sym (repeats before r)

  -- a report with the problem of its name, and then with the others, is with those of the line
  pub line-told :
      (checked : Checked) (report : Report)
      → is_nis text ≡ false
      → IsChecked format problems text checked
      → TellsBefore format names place before text
      → with_problems tab (at_line (place + 1) checked.problems)
      (with_problems tab
      (at_line (place + 1) (repeated_name names place (option_copied checked.name))) report)
      ≡ with_problems tab
      (at_line (place + 1) (problems_of_line format problems before text)) report
  line-told checked report plain is tells =
      let number : Problem → Located =
      λ problem. record { line = place + 1; problem = problem } in
      let repeated = repeated_name names place (option_copied checked.name) in
      problems-after tab (at_line (place + 1) repeated) (at_line (place + 1) checked.problems)
      report
      ∙ ap (λ found. with_problems tab found report)
      (sym (map-append number repeated checked.problems))
      ∙ ap (λ found. with_problems tab (at_line (place + 1) found) report)
      (ap₂ (λ name found. repeated_name names place name ++ found) is.named is.found
      ∙ found-by (format.read text) tells
      ∙ ap (λ (nis : Bool). if nis then []
      else elim (format.read text) [ None ↦ InvalidEntry ∷ [] | Some r ↦ problems before r ])
      (sym plain))

-- ---- The lines

-- the report of the lines of a file is that of its table
pub report-in-lines :
    {R : Type 0} (format : Format R) (problems : RecordProblems R) (file : Option (List ℕ))
    → problems_behind format problems [] (table_lines file) ≡ table_problems format problems file
report-in-lines format problems None = refl
report-in-lines format problems (Some bytes) = refl

-- a report of so many lines, whose names are noted, is with the problems of those left the whole
pub record IsReported {R : Type 0} (format : Format R) (problems : RecordProblems R) (tab : Tab)
    (table : NamedFile) (left : List Line) (place : ℕ) (report total : Report) : Type 0 where
  pub taken : HaveTaken (table_lines table.file.now) left
  pub counted : place ≡ length taken.done
  pub fits : length (table_lines table.file.now) < 2 ^ 64
  pub noted : HasNoted format taken.done table
  pub so_far : with_problems tab (problems_behind format problems taken.done left) report ≡ total

module _ {R : Type 0} (format : Format R) (problems : RecordProblems R) (tab : Tab)
    (table : NamedFile) (left : List Line) (place : ℕ) (report total : Report)
    (is : IsReported format problems tab table left place report total) where
  -- all lines
  abbrev all : List Line
  all = table_lines table.file.now

  -- the lines so far
  abbrev done : List Line
  done = is.taken.done

  -- where not all names are there, of none more records are told than there are lines so far
  pub told-behind : table.is_whole ≡ false → TellsAtMost place (told table.names)
  told-behind partial =
      subst (λ n. TellsAtMost n (told table.names))
      (length-map done (line_name format) ∙ sym is.counted)
      (told-within (line_names format done) (told table.names)
      (subst (λ (is_whole : Bool). TellsOf (line_names format (if is_whole then all else done))
      (told table.names)) partial is.noted))

  module _ (line : Line) (rest : List Line) (first : left ≡ line ∷ rest) where
    -- the place of the next line, and that behind it, are numbers of the machine
    pub place-fits : place + 1 < 2 ^ 64
    place-fits = omega (
      arith,
      is.counted,
      is.fits,
      length-append done left,
      ap length is.taken.joined,
      ap length first,
    )

    -- all lines, with the next among them
    all-are : done ++ line ∷ rest ≡ all
    all-are = ap (λ left. done ++ left) (sym first) ∙ is.taken.joined

    module _ (after : NamedFile) (notes : NotesLine (line_name format line) place table after) where
      -- the names that are kept then are those up to the line, or of all
      names-next : TellsOf (line_names format
          (if table.is_whole then all else done ++ line ∷ [])) (told after.names)
      names-next =
          next-by format done line table.is_whole all (told table.names) (told after.names) is.noted
          notes.whole
          (λ partial. subst
          (λ n. IsLineNoted (line_name format line) n (told table.names) (told after.names))
          is.counted (notes.noted partial))

      -- of its record it is told whether one before it has the name
      pub tells-before :
          TellsBefore format after.names place (records_of format done) line.text
      tells-before = λ r reads.
          before-by format done line table.is_whole rest (told after.names) r
          (subst (λ lines. TellsOf
          (line_names format (if table.is_whole then lines else done ++ line ∷ []))
          (told after.names)) (sym all-are) names-next) reads
          ∙ ap (λ n. begins_before n (told after.names (format.name r))) (sym is.counted)

      -- with the problems of the next line it is a report of one line more
      pub report-more :
          (more : Report)
          → more ≡ with_problems tab (at_line (place + 1)
          (problems_of_line format problems (records_of format done) line.text)) report
          → IsReported format problems tab after rest (place + 1) more total
      report-more more pushed =
          let found = problems_of_line format problems (records_of format done) line.text in
          let behind = problems_behind format problems (done ++ line ∷ []) rest in
          subst (λ table. IsReported format problems tab table rest (place + 1) more total)
          (sym notes.stays) (record {
            taken = record {
              done = done ++ line ∷ [];
              joined = append_assoc done (line ∷ []) rest ∙ all-are;
            };
            counted = omega (arith, is.counted, length-append done (line ∷ []));
            fits = is.fits;
            noted = names-next;
            so_far = ap (with_problems tab behind) pushed
                ∙ problems-after tab (at_line (place + 1) found) behind report
                ∙ ap (λ n. with_problems tab (at_line (n + 1) found ++ behind) report) is.counted
                ∙ ap (λ lines.
                with_problems tab (problems_behind format problems done lines) report) (sym first)
                ∙ is.so_far;
          })

  module _ (none : left ≡ []) where
    -- behind the last line it is the whole
    pub report-end : report ≡ total
    report-end =
        sym (no-problem tab report)
        ∙ ap (λ lines. with_problems tab (problems_behind format problems done lines) report)
        (sym none)
        ∙ is.so_far

    -- and the names are those of all records
    pub names-end : IsWhole format table
    names-end =
        whole-by format table.is_whole all (told table.names)
        (subst (λ lines. TellsOf (line_names format (if table.is_whole then all else lines))
        (told table.names))
        (sym (append-nil done) ∙ ap (λ left. done ++ left) (sym none) ∙ is.taken.joined) is.noted)
