-- Claims: what each line's tool keeps, a batch keeps (`batch-keeps`), and one that ensures what stands
-- already leaves all as it is (`done-lines-stay`). Way: the first line is carried out, and so are those
-- behind it on the files that it leaves (`line-carried`).
use Rattle.std.proofs.Common.{◌≡◌, ◌⊎◌, inl, inr, ℕ, Bool, true, false, ◌&&◌, if◌then◌else◌, List, [], ◌∷◌, refl, sym, ◌∙◌, subst, ap}
use Rattle.std.specs.Prelude.{Option, Some, None, Result, Ok, Err}
use Rattle.std.specs.List.{AllByRecursion}
use Rattle.acct_text.specs.declared.files.Files.{Files}
use Rattle.account_model.specs.Text.{first_some}
use Rattle.account_model.specs.BatchLines.{LineRequest}
use Rattle.account_model.specs.Settings.{Setting}
use Rattle.account_model.specs.declared.refusal.Refusal.{Refusal}
use Rattle.account_model.specs.Action.{Action, Made, made_by, multiple_entries, outcome_of}
use Rattle.account_model.specs.declared.tool.Tool.{Tool}
use Rattle.account_model.specs.Batch.{IsDoneOn, LineRefusal, Written, batch, before_others, in_turn, is_done, line_outcome, nothing_on, outcome_ensured, skipped_line, with_rest, written_by}
use Rattle.account_model.specs.Laws.{DoneLinesStay, LeavesAll}
use Rattle.account_model.specs.Change.{action_of}

-- what is wrapped in `Ok`
pub ok-inj :
    {X Y : Type 0} {x y : X} (one two : Result X Y)
    → one ≡ Ok x
    → two ≡ Ok y
    → one ≡ two
    → x ≡ y
ok-inj one two is_x is_y same = cc

-- ---- One command

-- the tool doesn't refuse, and makes this
pub record IsMade (action : Action) (files : Files) (made : Made) : Type 0 where
  pub passes : first_some action.refusals ≡ None
  pub single : multiple_entries action.script files ≡ None
  pub makes : made_by action files ≡ made

-- an outcome, by the refusal and by multiple entries
made-by :
    (action : Action) (files : Files) (made : Made) (refusal multiple : Option Refusal)
    → first_some action.refusals ≡ refusal
    → multiple_entries action.script files ≡ multiple
    → (elim refusal as (λ r. Result Made Refusal) [
      | Some r ↦ Err r
      | None ↦ elim multiple [ Some r ↦ Err r | None ↦ Ok (made_by action files) ]
    ]) ≡ Ok made
    → IsMade action files made
made-by action files made (Some r) multiple passes single is = absurd (cc)
made-by action files made None (Some r) passes single is = absurd (cc)
made-by action files made None None passes single is =
    record { passes = passes; single = single; makes = ok-inj _ _ refl refl is }

-- a line that doesn't refuse is made as by itself, or passed by
pub ensured-made :
    (ensuring : Bool) (tool : Tool) (files : Files) (outcome : Result Made Refusal) (made : Made)
    → outcome_ensured ensuring tool files outcome ≡ Ok made
    → (outcome ≡ Ok made) ⊎ (made ≡ skipped_line files)
ensured-made ensuring tool files (Ok one) made is = inl is
ensured-made ensuring tool files (Err refusal) made is = by (ensuring && is_done tool refusal) is
  where
    by :
        (passes : Bool)
        → (if passes then Ok (skipped_line files) else Err refusal) ≡ Ok made
        → (Err refusal ≡ Ok made) ⊎ (made ≡ skipped_line files)
    by true is = inr (sym (ok-inj _ _ refl refl is))
    by false is = absurd (cc is)

-- what has an outcome that isn't a refusal is made
pub outcome-made :
    (action : Action) (files : Files) (made : Made)
    → outcome_of action files ≡ Ok made
    → IsMade action files made
outcome-made action files made is = made-by action files made (first_some action.refusals)
    (multiple_entries action.script files) refl refl is

-- ---- The lines

-- the line is carried out, and those behind it
pub record LineCarried (outcome : Result Made Refusal) (rest : Files → Result Written LineRefusal)
    (written : Written) : Type 0 where
  pub made : Made
  pub is : outcome ≡ Ok made
  pub others : Written
  pub behind : rest made.files ≡ Ok others
  pub files : others.files ≡ written.files

-- those behind it, by their outcome
others-carried :
    (made : Made) (first written : Written) (rest : Files → Result Written LineRefusal)
    (others : Result Written LineRefusal)
    → rest made.files ≡ others
    → before_others first others ≡ Ok written
    → LineCarried (Ok made) rest written
others-carried made first written rest (Err refused) behind is = absurd (cc)
others-carried made first written rest (Ok others) behind is = record {
  made = made;
  is = refl;
  others = others;
  behind = behind;
  files = ap (λ (one : Written). one.files) (ok-inj _ _ refl refl is);
}

-- a line, by its outcome
pub line-carried :
    (line : LineRequest) (outcome : Result Made Refusal)
    (rest : Files → Result Written LineRefusal) (written : Written)
    → with_rest line outcome rest ≡ Ok written
    → LineCarried outcome rest written
line-carried line (Err refusal) rest written is = absurd (cc)
line-carried line (Ok made) rest written is =
    others-carried made (written_by line.request.tool made) written rest (rest made.files) refl is

module _ (ensuring : Bool) (day : ℕ) (settings : List Setting) (Holds : Files → Type 0) where
  -- the line's tool keeps it, on whatever files
  abbrev pub LineKeeps : LineRequest → Type 0
  LineKeeps line = (files : Files) (made : Made)
      → outcome_of (action_of line.request [] day files settings) files ≡ Ok made
      → Holds files
      → Holds made.files

  -- the claim, for lines of which each is so that its tool keeps it
  pub batch-keeps :
      (IsSo : LineRequest → Type 0) (lines : List LineRequest) (old : Files) (written : Written)
      → ((line : LineRequest) → IsSo line → LineKeeps line)
      → AllByRecursion IsSo lines
      → batch ensuring lines day settings old ≡ Ok written
      → Holds old
      → Holds written.files
  batch-keeps IsSo [] old written keep all is holds =
      subst (λ (one : Written). Holds one.files) (ok-inj _ _ refl refl is) holds
  batch-keeps IsSo (line ∷ rest) old written keep all is holds =
      let carried = line-carried line (line_outcome ensuring line.request day settings old)
      (batch ensuring rest day settings) written is
      in let kept : Holds carried.made.files = elim (ensured-made ensuring line.request.tool old
      (outcome_of (action_of line.request [] day old settings) old) carried.made carried.is) [
        | inl by_itself ↦ keep line all.0 old carried.made by_itself holds
        | inr passed ↦ subst (λ (one : Made). Holds one.files) (sym passed) holds
      ]
      in subst Holds carried.files
      (batch-keeps IsSo rest carried.made.files carried.others keep all.1 carried.behind kept)

-- a line that is done and those behind it leave all
line-stays :
    (line : LineRequest) (rest : List LineRequest) (day : ℕ) (settings : List Setting)
    (files : Files)
    → IsDoneOn day settings files line
    → LeavesAll rest day settings files
    → LeavesAll (line ∷ rest) day settings files
line-stays line rest day settings files done others =
    let behind : batch true rest day settings done.made.files ≡ Ok others.written =
    ap (λ (one : Files). batch true rest day settings one) done.stays ∙ others.is in
    record {
      written = in_turn (written_by line.request.tool done.made) others.written;
      is = ap (λ (one : Result Made Refusal). with_rest line one (batch true rest day settings))
          done.outcome
          ∙ ap (before_others (written_by line.request.tool done.made)) behind;
      stays = others.stays;
    }

-- the second claim
pub done-lines-stay : DoneLinesStay
done-lines-stay [] day settings files done =
    record { written = nothing_on files; is = refl; stays = refl }
done-lines-stay (line ∷ rest) day settings files done =
    line-stays line rest day settings files done.0 (done-lines-stay rest day settings files done.1)

-- what is so of any line is so of all
pub any-line :
    (IsSo : LineRequest → Type 0) (lines : List LineRequest)
    → ((line : LineRequest) → IsSo line)
    → AllByRecursion IsSo lines
any-line IsSo [] so = tt
any-line IsSo (line ∷ rest) so = (so line, any-line IsSo rest so)
