-- pwck, grpck, getsubids and batch are lawful: `pwck-lawful` and so on. Way: a sort prints no record and touches none; a
-- report edits nothing, and by their rules pwck and grpck don't sort with `-r` (`not-sorting`).
use Rattle.std.proofs.Common.{◌≡◌, ℕ, ◌+◌, Bool, true, false, not, ◌==◌, ◌||◌, ◌&&◌, List, [], ◌∷◌, refl, sym, subst, ◌∙◌, inl, inr, true≢false}
use Rattle.std.specs.Prelude.{Some, None, codes, cond, find, is_some, option_map, position, if◌then◌else◌}
use Rattle.std.specs.Str.{byte}
use Rattle.acct_text.specs.declared.files.Files.{Files}
use Rattle.account_model.specs.declared.given.Given.{Given}
use Rattle.account_model.specs.declared.tool.Tool.TheVariants.{Pwck, Grpck, Getsubids, Batch}
use Rattle.account_model.specs.Settings.{Setting}
use Rattle.account_model.specs.Tables.{Script, no_edits}
use Rattle.account_model.specs.Options.{is_given, not_both, some_of}
use Rattle.account_model.specs.Request.{Request, has_option}
use Rattle.account_model.specs.Action.{Action, changes}
use Rattle.account_model.specs.Pwck.{pwck_sort, pwck_report}
use Rattle.account_model.specs.Grpck.{grpck_sort, grpck_report}
use Rattle.account_model.specs.NamedLines.{names_nothing}
use Rattle.account_model.proofs.KeptIds.{groups-keep, users-keep}
use Rattle.account_model.proofs.LawfulScripts.{IsLawful, lawful, lawful-composed}
use Rattle.account_model.proofs.LawfulTools.{IsPlain, LawfulAct, by-choice, quiet-act}
use Rattle.account_model.proofs.NamedLaws.{groups-spare, users-spare}
use Rattle.account_model.proofs.WrittenScripts.{groups-written, users-written}

-- ---- The rules of pwck and grpck

-- an option is there where it is given
found-given : (letter : ℕ) (options : List Given) →
    is_some (find (λ option. option.letter == letter) options) ≡ is_given letter options
found-given letter [] = refl
found-given letter (option ∷ rest) = cases (option.letter == letter) (found-given letter rest)
  where
    cases : (is : Bool) → is_some (find (λ one. one.letter == letter) rest) ≡ is_given letter rest →
        is_some (cond is (Some option) (find (λ one. one.letter == letter) rest))
        ≡ (is || is_given letter rest)
    cases true same = refl
    cases false same = same

-- of two rules that aren't broken the second is kept
second-kept : (first second : Bool) →
    option_map (λ place. place + 1) (position (λ rule. not rule) (first ∷ second ∷ [])) ≡ None →
    second ≡ true
second-kept true true unbroken = refl
second-kept true false unbroken = absurd (cc unbroken)
second-kept false second unbroken = absurd (cc unbroken)

-- where one of two options that clash is given, the other isn't
other-apart : (given other : Bool) → not (given && other) ≡ true → given ≡ true → other ≡ false
other-apart true false apart is = refl
other-apart true true apart is = absurd (true≢false (sym apart))
other-apart false other apart is = absurd (true≢false (sym is))

-- where `-r` is given, `-s` isn't
not-sorting : (request : Request) →
    option_map (λ place. place + 1) (position (λ rule. not rule)
    (some_of (codes "rs") request.options
    ∷ not_both (byte "r") (byte "s") request.options ∷ [])) ≡ None →
    has_option (codes "r") request ≡ true → has_option (codes "s") request ≡ false
not-sorting request unbroken reads = found-given (byte "s") request.options
    ∙ other-apart (is_given (byte "r") request.options) (is_given (byte "s") request.options)
    (second-kept (some_of (codes "rs") request.options)
    (not_both (byte "r") (byte "s") request.options) unbroken)
    (sym (found-given (byte "r") request.options) ∙ reads)

-- ---- The tools

-- one that sorts, or reports
by-sorting :
    {day : ℕ} (sorts : Bool) (sorting : Script) (reporting : Action)
    → IsLawful day false true names_nothing sorting
    → no_edits ≡ reporting.script
    → IsLawful day false sorts names_nothing (if sorts then changes [] sorting else reporting).script
by-sorting true sorting reporting is none = is
by-sorting false sorting reporting is none =
    subst (IsLawful _ false false names_nothing) none (lawful-composed names_nothing).none

module _ (request : Request) (input : List ℕ) (day : ℕ) (files : Files)
    (settings : List Setting) where
  -- pwck sorts users, or reports
  pub pwck-lawful : LawfulAct Pwck request input day files settings
  pwck-lawful =
      let sorts = has_option (codes "s") request
      in let one = changes [] (pwck_sort files)
      in let other = pwck_report request files day
      in record {
        script = λ none. by-sorting sorts (pwck_sort files) other
            (lawful (users-written _ _ (tt, tt) (tt, tt))
            (users-spare _ _ (true≢false, tt) (true≢false, tt))
            (λ none. users-keep _ _ (tt, tt))) refl;
        plain = by-choice IsPlain sorts one other (λ is. inl refl) (λ is. inr refl);
        report = λ rules asked. by-choice (λ action. action.script ≡ no_edits) sorts one other
            (λ is. absurd (true≢false (sym is ∙ not-sorting request rules asked))) (λ is. refl);
        line = λ may. absurd (cc may);
      }

  -- grpck sorts groups, or reports
  pub grpck-lawful : LawfulAct Grpck request input day files settings
  grpck-lawful =
      let sorts = has_option (codes "s") request
      in let one = changes [] (grpck_sort files)
      in let other = grpck_report files
      in record {
        script = λ none. by-sorting sorts (grpck_sort files) other
            (lawful (groups-written _ _ (tt, tt) (tt, tt))
            (groups-spare _ _ (true≢false, tt) (true≢false, tt))
            (λ none. groups-keep _ _ (tt, tt))) refl;
        plain = by-choice IsPlain sorts one other (λ is. inl refl) (λ is. inr refl);
        report = λ rules asked. by-choice (λ action. action.script ≡ no_edits) sorts one other
            (λ is. absurd (true≢false (sym is ∙ not-sorting request rules asked))) (λ is. refl);
        line = λ may. absurd (cc may);
      }

  -- getsubids edits nothing
  pub getsubids-lawful : LawfulAct Getsubids request input day files settings
  getsubids-lawful = record {
    script = λ none. (lawful-composed names_nothing).none;
    plain = inl refl;
    report = λ rules asked. refl;
    line = λ may. refl;
  }

  -- nor does a batch by itself
  pub batch-lawful : LawfulAct Batch request input day files settings
  batch-lawful = quiet-act refl refl refl (λ none. (lawful-composed names_nothing).none)
