-- Claim: a deed is what its edits make, and leaves the lines that they don't touch (`deeds-leave-untouched`).
-- Way: edits leave the untouched lines of a table (`table-leaves`), as each edit leaves them to those behind it; the edits
-- of a batch, one command after another, make what its lines make (`lines-made`), as what is printed reads back as lines.
use Rattle.std.proofs.Common.{◌≡◌, ℕ, ◌≤◌, Bool, List, [], ◌∷◌, ◌++◌, refl, sym, ◌∙◌, ap, subst, arith, inl, inr}
use Rattle.std.specs.Prelude.{Option, Some, None, unwrap_or, Result, Ok, Err, if◌then◌else◌}
use Rattle.std.specs.List.{AllByRecursion}
use Rattle.std.proofs.lemmas.List.Sums.{fold-append}
use Rattle.acct_text.specs.declared.files.Files.{Files}
use Rattle.acct_text.specs.Lines.{Line, lines_of, file_bytes, texts_of}
use Rattle.acct_text.proofs.LinesLaws.{lines_of-only}
use Rattle.account_model.specs.declared.refusal.Refusal.{Refusal}
use Rattle.account_model.specs.Format.{Format}
use Rattle.account_model.specs.Edits.{Edit, Become, Add, AddMissing, Put, Arrange, edited, edited_by}
use Rattle.account_model.specs.Records.{passwd_format, shadow_format, group_format, gshadow_format, subid_format, greatest_days}
use Rattle.account_model.specs.RecordEdits.{IsWrittenEdit, TellsSame}
use Rattle.account_model.specs.Tables.{Script, no_edits, table_after, files_after, followed_by, table_lines}
use Rattle.account_model.specs.TouchedLines.{is_untouched, untouched_texts, ends}
use Rattle.account_model.specs.WrittenScript.{IsWrittenScript}
use Rattle.account_model.specs.Settings.{Setting, settings_of}
use Rattle.account_model.specs.Request.{Request}
use Rattle.account_model.specs.Action.{Made, outcome_of}
use Rattle.account_model.specs.Change.{action_of}
use Rattle.account_model.specs.Batch.{Written, batch, ensures, line_outcome, outcome_ensured}
use Rattle.account_model.specs.BatchLines.{LineRequest, line_requests}
use Rattle.account_model.specs.Answer.{deed}
use Rattle.account_model.specs.DeedLines.{DeedsLeaveUntouched, IsByEdits, LeaveUntouched, LeavesUntouched, IsSorting, edits_by, edits_of_deed, edits_of_lines, edits_on, then_edits, times}
use Rattle.account_model.proofs.BatchLaws.{ensured-made, line-carried, ok-inj, outcome-made}
use Rattle.account_model.proofs.DeedLaws.{deed-makes}
use Rattle.account_model.proofs.EditLines.{edited-lines}
use Rattle.account_model.proofs.ListLaws.{all-append}
use Rattle.account_model.proofs.NoEdits.{files-stay}
use Rattle.account_model.proofs.SameLaws.{passwd-tells, shadow-tells, group-tells, gshadow-tells, subid-tells}
use Rattle.account_model.proofs.TextTimes.{arranged-times, arranged-untouched, within-times}
use Rattle.account_model.proofs.ToolLaws.{tools-written}
use Rattle.account_model.proofs.UntouchedLaws.{filter-within, step-within, untouched-stay}

-- ---- The lines of a table

module _ {R : Type 0} (format : Format R) (tells : TellsSame format) where
  -- what all edits leave untouched, the first edit leaves to the others
  step-times :
      (text : List ℕ) (edit : Edit R) (edits : List (Edit R)) (lines : List Line)
      → times text (untouched_texts format (edit ∷ edits) lines)
      ≤ times text (untouched_texts format edits (edited format lines edit))
  step-times text (Become f) edits lines =
      within-times text (step-within format tells (Become f) edits lines tt)
  step-times text (Add r) edits lines =
      within-times text (step-within format tells (Add r) edits lines tt)
  step-times text (AddMissing r) edits lines =
      within-times text (step-within format tells (AddMissing r) edits lines tt)
  step-times text (Put r) edits lines =
      within-times text (step-within format tells (Put r) edits lines tt)
  step-times text (Arrange key) edits lines =
      subst (λ n. times text (untouched_texts format edits lines) ≤ n)
      (sym (arranged-untouched format edits text key lines)) (omega arith)

  -- each text that edits leave stands as often
  stay-times :
      (text : List ℕ) (edits : List (Edit R)) (lines : List Line)
      → times text (untouched_texts format edits lines)
      ≤ times text (texts_of (edited_by format edits lines))
  stay-times text [] lines = within-times text (filter-within (is_untouched format []) lines)
  stay-times text (edit ∷ edits) lines =
      omega (
        arith,
        step-times text edit edits lines,
        stay-times text edits (edited format lines edit),
      )

  -- sorts leave all texts
  sorts-stay :
      (text : List ℕ) (edits : List (Edit R)) (lines : List Line)
      → AllByRecursion IsSorting edits
      → times text (texts_of (edited_by format edits lines)) ≡ times text (texts_of lines)
  sorts-stay text [] lines sort = refl
  sorts-stay text (Arrange key ∷ edits) lines sort =
      sorts-stay text edits (edited format lines (Arrange key)) sort.1
      ∙ arranged-times format key text lines
  sorts-stay text (edit ∷ edits) lines sort = absurd sort.0

  -- edits leave the lines that they don't touch
  lines-leave :
      (edits : List (Edit R)) (lines : List Line)
      → LeavesUntouched format edits lines (edited_by format edits lines)
  lines-leave edits lines = record {
    stay = λ text. stay-times text edits lines;
    in_order = untouched-stay format tells edits lines;
    sorted = λ sort text. sorts-stay text edits lines sort;
  }

  module _ (none : format.read [] ≡ None) (edits : List (Edit R))
      (written : AllByRecursion (IsWrittenEdit format) edits) where
    -- the lines of the new bytes are the edited ones
    lines-again :
        (bytes : List ℕ)
        → lines_of (file_bytes (edited_by format edits (lines_of bytes)))
        ≡ edited_by format edits (lines_of bytes)
    lines-again bytes = lines_of-only (file_bytes (edited_by format edits (lines_of bytes)))
        (edited_by format edits (lines_of bytes)) (edited-lines format none edits bytes written)

    -- so it is of a table after its edits
    table-leaves :
        (bytes : Option (List ℕ))
        → LeavesUntouched format edits (table_lines bytes)
        (table_lines (table_after format edits bytes))
    table-leaves None =
        record { stay = λ text. omega arith; in_order = λ kept. ends; sorted = λ sort text. refl }
    table-leaves (Some bytes) = subst (LeavesUntouched format edits (lines_of bytes))
        (sym (lines-again bytes)) (lines-leave edits (lines_of bytes))

    -- edits of a table after one another
    pub table-then :
        (more : List (Edit R)) (bytes : Option (List ℕ))
        → table_after format (edits ++ more) bytes
        ≡ table_after format more (table_after format edits bytes)
    table-then more None = refl
    table-then more (Some bytes) = ap (λ (lines : List Line). Some (file_bytes lines))
        (fold-append (edited format) (lines_of bytes) edits more
        ∙ ap (edited_by format more) (sym (lines-again bytes)))

-- ---- All six

-- a script leaves the lines that it doesn't touch
script-leaves :
    (script : Script) (old : Files)
    → IsWrittenScript script
    → LeaveUntouched script old (files_after script old)
script-leaves script old written = record {
  passwd = table-leaves passwd_format passwd-tells refl script.passwd written.passwd old.passwd;
  shadow = table-leaves shadow_format shadow-tells refl script.shadow written.shadow old.shadow;
  group = table-leaves group_format group-tells refl script.group written.group old.group;
  gshadow = table-leaves gshadow_format gshadow-tells refl script.gshadow written.gshadow
      old.gshadow;
  subuid = table-leaves subid_format subid-tells refl script.subuid written.subuid old.subuid;
  subgid = table-leaves subid_format subid-tells refl script.subgid written.subgid old.subgid;
}

-- scripts after one another
scripts-then :
    (first more : Script) (old : Files)
    → IsWrittenScript first
    → files_after (followed_by first more) old ≡ files_after more (files_after first old)
scripts-then first more old written = λ i. record {
  passwd = table-then passwd_format passwd-tells refl first.passwd written.passwd more.passwd
      old.passwd i;
  shadow = table-then shadow_format shadow-tells refl first.shadow written.shadow more.shadow
      old.shadow i;
  group = table-then group_format group-tells refl first.group written.group more.group old.group i;
  gshadow = table-then gshadow_format gshadow-tells refl first.gshadow written.gshadow more.gshadow
      old.gshadow i;
  subuid = table-then subid_format subid-tells refl first.subuid written.subuid more.subuid
      old.subuid i;
  subgid = table-then subid_format subid-tells refl first.subgid written.subgid more.subgid
      old.subgid i;
}

-- no edits print nothing
none-written : IsWrittenScript no_edits
none-written =
    record { passwd = tt; shadow = tt; group = tt; gshadow = tt; subuid = tt; subgid = tt }

-- two scripts print what each prints
both-written :
    (first more : Script)
    → IsWrittenScript first
    → IsWrittenScript more
    → IsWrittenScript (followed_by first more)
both-written first more one other = record {
  passwd = all-append _ first.passwd more.passwd one.passwd other.passwd;
  shadow = all-append _ first.shadow more.shadow one.shadow other.shadow;
  group = all-append _ first.group more.group one.group other.group;
  gshadow = all-append _ first.gshadow more.gshadow one.gshadow other.gshadow;
  subuid = all-append _ first.subuid more.subuid one.subuid other.subuid;
  subgid = all-append _ first.subgid more.subgid one.subgid other.subgid;
}

-- ---- Commands

-- the edits make these files, and print only what reads back
pub record IsMadeBy (edits : Script) (old new : Files) : Type 0 where
  pub written : IsWrittenScript edits
  pub makes : files_after edits old ≡ new

-- no edits make what stood
pub none-made : (old : Files) → IsMadeBy no_edits old old
none-made old = record { written = none-written; makes = files-stay old }

-- edits, and those that follow
pub both-made :
    (first : Script) (rest : Files → Script) (old middle new : Files)
    → IsMadeBy first old middle
    → IsMadeBy (rest middle) middle new
    → IsMadeBy (then_edits first old rest) old new
both-made first rest old middle new one =
    subst (λ (between : Files). IsMadeBy (rest between) between new
    → IsMadeBy (then_edits first old rest) old new) one.makes
    (λ more. record {
      written = both-written first (rest (files_after first old)) one.written more.written;
      makes = scripts-then first (rest (files_after first old)) old one.written ∙ more.makes;
    })

module _ (day : ℕ) (in_time : day ≤ greatest_days) (settings : List Setting) where
  -- what a tool makes, its edits make
  tool-made :
      (request : Request) (input : List ℕ) (old : Files) (made : Made)
      → outcome_of (action_of request input day old settings) old ≡ Ok made
      → IsMadeBy (edits_on request input day old settings) old made.files
  tool-made request input old made outcome =
      let action = action_of request input day old settings
      in let is = outcome-made action old made outcome
      in subst (λ (came : Result Made Refusal). IsMadeBy (edits_by came action) old made.files)
      (sym outcome) (record {
        written = tools-written request input day old settings in_time is.passes;
        makes = ap (λ (one : Made). one.files) is.makes;
      })

  -- what a line of a batch makes, by the outcome of its tool
  line-made :
      (ensuring : Bool) (request : Request) (old : Files) (made : Made)
      (outcome : Result Made Refusal)
      → outcome_of (action_of request [] day old settings) old ≡ outcome
      → outcome_ensured ensuring request.tool old outcome ≡ Ok made
      → IsMadeBy (edits_on request [] day old settings) old made.files
  line-made ensuring request old made (Ok one) is outcome =
      tool-made request [] old made (is ∙ outcome)
  line-made ensuring request old made (Err refusal) is outcome =
      subst (λ (came : Result Made Refusal).
      IsMadeBy (edits_by came (action_of request [] day old settings)) old made.files) (sym is)
      (elim (ensured-made ensuring request.tool old (Err refusal) made outcome) [
        | inl wrong ↦ absurd (cc wrong)
        | inr passed ↦ subst (λ (one : Made). IsMadeBy no_edits old one.files) (sym passed)
            (none-made old)
      ])

  -- what the lines of a batch make, their edits make
  pub lines-made :
      (ensuring : Bool) (lines : List LineRequest) (old : Files) (written : Written)
      → batch ensuring lines day settings old ≡ Ok written
      → IsMadeBy (edits_of_lines lines day settings old) old written.files
  lines-made ensuring [] old written is =
      subst (λ (one : Written). IsMadeBy no_edits old one.files) (ok-inj _ _ refl refl is)
      (none-made old)
  lines-made ensuring (line ∷ rest) old written is =
      let carried = line-carried line (line_outcome ensuring line.request day settings old)
      (batch ensuring rest day settings) written is
      in both-made (edits_on line.request [] day old settings) (edits_of_lines rest day settings)
      old carried.made.files written.files
      (line-made ensuring line.request old carried.made
      (outcome_of (action_of line.request [] day old settings) old) refl carried.is)
      (subst (IsMadeBy (edits_of_lines rest day settings carried.made.files) carried.made.files)
      carried.files
      (lines-made ensuring rest carried.made.files carried.others carried.behind))

-- ---- Deeds

-- a deed is made by its edits
pub deed-made :
    (request : Request) (input : List ℕ) (day : ℕ) (old : Files) (defs : Option (List ℕ))
    (new : Files)
    → day ≤ greatest_days
    → deed request input day old defs ≡ Some new
    → IsMadeBy (edits_of_deed request input day old defs) old new
deed-made request input day old defs new in_time e =
    let settings = settings_of (unwrap_or defs [])
    in let by = λ (is : Bool). if is
    then edits_of_lines (line_requests input) day settings old
    else edits_on request input day old settings
    in elim (deed-makes request input day old defs new e) [
      | inl by_lines ↦ subst (IsMadeBy (edits_of_deed request input day old defs) old)
          by_lines.files
          (subst (λ (is : Bool). IsMadeBy (by is) old by_lines.written.files) (sym by_lines.is)
          (lines-made day in_time settings (ensures request) (line_requests input) old
          by_lines.written by_lines.outcome))
      | inr by_tool ↦ subst (IsMadeBy (edits_of_deed request input day old defs) old) by_tool.files
          (subst (λ (is : Bool). IsMadeBy (by is) old by_tool.made.files) (sym by_tool.is)
          (tool-made day in_time settings request input old by_tool.made by_tool.outcome))
    ]

-- what edits make leaves the lines that they don't touch
pub made-leaves :
    (edits : Script) (old new : Files) → IsMadeBy edits old new → IsByEdits edits old new
made-leaves edits old new made = record {
  written = made.written;
  makes = made.makes;
  leave = subst (LeaveUntouched edits old) made.makes (script-leaves edits old made.written);
}

-- the claim
pub deeds-leave-untouched : DeedsLeaveUntouched
deeds-leave-untouched request input day old defs new in_time e =
    made-leaves (edits_of_deed request input day old defs) old new
    (deed-made request input day old defs new in_time e)
