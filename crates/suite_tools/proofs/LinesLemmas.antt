-- Claims: what a line asks for is written behind the others where it is carried out
-- (`carried-behind`); and a batch is what its lines so far have written, with what the others make of
-- it: line by line, up to one that refuses (`line-done`), and at the end (`all-written`).
use Rattle.std.proofs.Common.{◌≡◌, ◌∙◌, ◌++◌, ℕ, Bool, List, [], ◌∷◌, Option, ap, refl, sym, append_assoc, append-nil}
use Rattle.std.specs.Prelude.{Some, None, Result, Ok, Err}
use Rattle.acct_text.specs.declared.files.Files.{Files}
use Rattle.account_model.specs.declared.tool.Tool.{Tool}
use Rattle.account_model.specs.BatchLines.{LineRequest}
use Rattle.account_model.specs.Settings.{Setting}
use Rattle.account_model.specs.declared.refusal.Refusal.{Refusal}
use Rattle.account_model.specs.Action.{Made, outcome_of}
use Rattle.account_model.specs.Change.{action_of}
use Rattle.account_model.specs.Request.{Request}
use Rattle.account_model.specs.Batch.{LineRefusal, Written, batch, before_others, line_outcome, outcome_ensured, with_rest, written_by}
use Rattle.account_model.specs.Messages.{messages}
use Rattle.suite_tools.specs.Carrying.{IsCarriedOut}
use Rattle.suite_tools.specs.declared.carry.Carried.{Carried}
use Rattle.suite_tools.specs.Writing.{IsWrittenBehind, with_made, with_output}

-- ---- One line

-- what a line leaves and prints that is carried out is written behind the others, whether lines that are
-- done are passed by or not
pub carried-behind :
    (ensuring : Bool) (request : Request) (day : ℕ) (settings : List Setting) (files : Files)
    (carried : Carried) (old new : Written)
    → IsCarriedOut request.tool
    (outcome_of (action_of request [] day old.files settings) old.files) old.files files (Ok carried)
    → new ≡ with_output carried.output (record old { files = files })
    → IsWrittenBehind request.tool old new None
    (line_outcome ensuring request day settings old.files)
carried-behind ensuring request day settings files carried old new made is =
    by (outcome_of (action_of request [] day old.files settings) old.files) made
  where
    by :
        (outcome : Result Made Refusal)
        → IsCarriedOut request.tool outcome old.files files (Ok carried)
        → IsWrittenBehind request.tool old new None
        (outcome_ensured ensuring request.tool old.files outcome)
    by (Err refusal) left = absurd left.0
    by (Ok made) left = (
      refl,
      is
          ∙ ap (λ (one : Written). record old {
            files = one.files;
            output = old.output ++ one.output;
            error = old.error ++ one.error;
          }) (sym left.0),
    )

-- ---- The lines of a batch

-- what two have written before others is written before them by both
in-turn-again :
    (first : Written) (tool : Tool) (made : Made) (others : Result Written LineRefusal)
    → before_others first (before_others (written_by tool made) others)
    ≡ before_others (with_made tool made first) others
in-turn-again first tool made (Err refused) = refl
in-turn-again first tool made (Ok others) = λ i. Ok (record {
  files = others.files;
  status = others.status;
  output = sym (append_assoc first.output made.output others.output) i;
  error = sym (append_assoc first.error (messages tool made.notices) others.error) i;
})

module _ (ensuring : Bool) (day : ℕ) (settings : List Setting) where
  -- what a line does on these files
  abbrev pub outcome_on : LineRequest → Files → Result Made Refusal
  outcome_on line files = line_outcome ensuring line.request day settings files

  -- what has been written, and the lines that are left
  abbrev pub with_left : List LineRequest → Written → Result Written LineRefusal
  with_left lines written = before_others written (batch ensuring lines day settings written.files)

  -- a line, with those behind it, and what becomes of it
  module _ (line : LineRequest) (left rest : List LineRequest) (first : left ≡ line ∷ rest)
      (old new : Written) where
    -- the batch where the line is carried out, or refuses
    abbrev pub by_refusal : Option Refusal → Result Written LineRefusal
    by_refusal None = with_left rest new
    by_refusal (Some refusal) =
        Err (record { number = line.number; tool = line.request.tool; refusal = refusal })

    -- what is carried out is written before the others, and a refusal refuses the batch
    pub line-done :
        (refusal : Option Refusal)
        → IsWrittenBehind line.request.tool old new refusal (outcome_on line old.files)
        → with_left left old ≡ by_refusal refusal
    line-done refusal behind =
        ap (λ (lines : List LineRequest). with_left lines old) first
        ∙ by (outcome_on line old.files) behind
      where
        by :
            (outcome : Result Made Refusal)
            → IsWrittenBehind line.request.tool old new refusal outcome
            → before_others old (with_rest line outcome (batch ensuring rest day settings))
            ≡ by_refusal refusal
        by (Err found) refused = ap by_refusal (sym refused)
        by (Ok made) carried =
            in-turn-again old line.request.tool made (batch ensuring rest day settings made.files)
            ∙ (ap (with_left rest) (sym carried.1) ∙ ap by_refusal (sym carried.0))

  -- behind the last line all is written
  pub all-written :
      (left : List LineRequest) (written : Written)
      → left ≡ []
      → with_left left written ≡ Ok (record written { status = 0 })
  all-written left written none =
      ap (λ (lines : List LineRequest). with_left lines written) none
      ∙ λ i. Ok (record written {
        status = 0;
        output = append-nil written.output i;
        error = append-nil written.error i;
      })
