-- Claim: an answer that is due stays so while the session frees its lock (`gives-stay`).
-- Way: a step of a keeper on its way out leaves what the session was asked, what it knows of the
-- intent and its commit (`work`), and its number; and a history only grows.
use Rattle.std.proofs.Common.{◌≡◌, sym, ap, ◌∙◌, ℕ, ◌++◌, inl, inr, Option, Some, None, IfSome}
use Rattle.std.proofs.lemmas.List.{append_assoc}
use Rattle.acct_outside.specs.declared.Name.{Name}
use Rattle.acct_outside.specs.declared.Name.TheVariants.{Table, Intent, Defs}
use Rattle.acct_outside.specs.Tokens.{Token}
use Rattle.acct_outside.specs.Calls.{Call, Answer as CallAnswer, Found, found_bytes, found_too_large}
use Rattle.acct_outside.specs.History.{History}
use Rattle.suite_rules.specs.OwnLock.{kept_number}
use Rattle.suite_rules.specs.Standing.{Standing, standing}
use Rattle.suite_rules.specs.Steps.{Work, work, Leaves}
use Rattle.suite_answers.specs.declared.cause.Which.TheVariants.{File}
use Rattle.suite_answers.specs.declared.cause.Cause.{Cause}
use Rattle.suite_answers.specs.declared.cause.Cause.TheVariants.{Changed, Same, Refused, RefusedLine, Held, Gone, Raced, Outrun, LockDamaged, Exhausted, IntentDamaged, TooLarge, NoTable, BadSetting, DiskFault}
use Rattle.suite_answers.specs.declared.answer.Answer.{Answer}
use Rattle.suite_session.specs.Runner.{Runner}
use Rattle.acct_outside.specs.Moment.{Past, Moment}
use Rattle.acct_outside.specs.declared.CommitStage.{CommitStage}
use Rattle.suite_rules.proofs.Parts.{LeavesWhere, StandsWhere}
use Rattle.suite_session.specs.Moment.{Runs, At}
use Rattle.suite_session.specs.Causes.{Met, HasMet, HasYielded, MetChange, MetIntent}
use Rattle.suite_session.specs.Due.{AnswersAll, AnswersSome, AnsweredAll, WasKeeper, IsReported, ShowsAll, ShowsLarge, ShowsOutrun, ShowsSome, IsShown, IsDue}
use Rattle.suite_session.specs.Stands.{Extends, HasToGive}

-- what was met stays met
pub met-later : (token : Token) (call : Call) (answered : CallAnswer call)
    (Stood : Standing → Type 0) (old new newer : History) → new ≡ newer ++ old →
    Met token call answered Stood old → Met token call answered Stood new
met-later token call answered Stood old new newer parts met = record {
  newer = newer ++ met.newer;
  older = met.older;
  parts = parts ∙ (ap (λ (history : History). newer ++ history) met.parts
      ∙ sym (append_assoc newer met.newer _));
  stood = met.stood;
}

-- so does what was found of the intent
intent-later : (token : Token) (found : Found) (old new newer : History) → new ≡ newer ++ old →
    MetIntent token found old → MetIntent token found new
intent-later token found old new newer parts (inl met) =
    inl (met-later _ _ _ _ old new newer parts met)
intent-later token found old new newer parts (inr met) =
    inr (met.0, met-later _ _ _ _ old new newer parts met.1)

-- and another greatest lock that was listed
change-later : (token : Token) (number other : ℕ) (old new newer : History) → new ≡ newer ++ old →
    MetChange token number other old → MetChange token number other new
change-later token number other old new newer parts met =
    (met.0, met.1, met.2, met-later _ _ _ _ old new newer parts met.3)

module _ (runner : Runner) (answer : Answer) where
  -- what was seen stays seen
  all-stays : (old new : Standing) → kept_number new.own ≡ kept_number old.own →
      new.knows ≡ old.knows → AnswersAll runner answer old → AnswersAll runner answer new
  all-stays old new kept knows all = record {
    number = all.number;
    kept = kept ∙ all.kept;
    seen = all.seen;
    clean = knows ∙ all.clean;
    files = all.files;
    defs = all.defs;
    all = all.all;
    is_answer = all.is_answer;
  }

  some-stays : (old new : Standing) → kept_number new.own ≡ kept_number old.own →
      new.knows ≡ old.knows → AnswersSome runner answer old → AnswersSome runner answer new
  some-stays old new kept knows some = record {
    number = some.number;
    kept = kept ∙ some.kept;
    seen = some.seen;
    clean = knows ∙ some.clean;
    is_answer = some.is_answer;
  }

  -- an earlier moment stays earlier
  pub earlier-stays : (old new newer : History) → new ≡ newer ++ old →
      AnsweredAll runner answer old → AnsweredAll runner answer new
  earlier-stays old new newer parts all = record {
    newer = newer ++ all.newer;
    older = all.older;
    parts = parts ∙ (ap (λ (history : History). newer ++ history) all.parts
        ∙ sym (append_assoc newer all.newer all.older));
    number = all.number;
    seen = all.seen;
    clean = all.clean;
    files = all.files;
    defs = all.defs;
    all = all.all;
    is_answer = all.is_answer;
  }

  -- so it is with what a cause is shown by
  met-stays : (old new newer : History) → new ≡ newer ++ old → (cause : Cause) →
      HasMet runner.token old cause → HasMet runner.token new cause
  met-stays old new newer parts (Held token) met =
      (met.0, met-later _ _ _ _ old new newer parts met.1, met.2)
  met-stays old new newer parts (Gone number) met =
      (met.0, met-later _ _ _ _ old new newer parts met.1, met.2)
  met-stays old new newer parts (Raced number) met =
      (met.0, met.1, met-later _ _ _ _ old new newer parts met.2)
  met-stays old new newer parts (Outrun number other) (inl met) =
      inl (met.0, met.1, met.2, met-later _ _ _ _ old new newer parts met.3)
  met-stays old new newer parts (Outrun number other) (inr met) =
      inr (change-later runner.token number other old new newer parts met)
  met-stays old new newer parts (LockDamaged number) met =
      (met.0, met.1, met-later _ _ _ _ old new newer parts met.2, met.3)
  met-stays old new newer parts Exhausted met =
      (met.0, met.1, met-later _ _ _ _ old new newer parts met.2)
  met-stays old new newer parts (IntentDamaged part) met =
      (met.0, met.1, intent-later runner.token (found_bytes met.0) old new newer parts met.2)
  met-stays old new newer parts (TooLarge (File Intent)) met =
      intent-later runner.token found_too_large old new newer parts met
  met-stays old new newer parts (DiskFault stage) met = record {
    newer = newer ++ met.newer;
    older = met.older;
    call = met.call;
    no_answer = met.no_answer;
    effect = met.effect;
    parts = parts ∙ (ap (λ (history : History). newer ++ history) met.parts
        ∙ sym (append_assoc newer met.newer _));
  }
  met-stays old new newer parts cause met = met

  -- so it is where it yielded its lock
  yielded-stays : (old new newer : History) → new ≡ newer ++ old → (number other : ℕ) →
      HasYielded runner.token number other old → HasYielded runner.token number other new
  yielded-stays old new newer parts number other (inl met) =
      inl (met.0, met-later _ _ _ _ old new newer parts met.1)
  yielded-stays old new newer parts number other (inr met) =
      inr (met.0, met.1, met.2, met-later _ _ _ _ old new newer parts met.3)

  -- who was keeper earlier was so
  keeper-stays : (old new newer : History) → new ≡ newer ++ old → WasKeeper runner.token old →
      WasKeeper runner.token new
  keeper-stays old new newer parts was = record {
    newer = newer ++ was.newer;
    older = was.older;
    parts = parts ∙ (ap (λ (history : History). newer ++ history) was.parts
        ∙ sym (append_assoc newer was.newer was.older));
    number = was.number;
    active = was.active;
    uncommitted = was.uncommitted;
  }

  module _ (old new newer : History) (parts : new ≡ newer ++ old)
      (kept : kept_number (standing runner.token new).own
      ≡ kept_number (standing runner.token old).own)
      (knows : (standing runner.token new).knows ≡ (standing runner.token old).knows)
      (reported : IsReported runner answer old → IsReported runner answer new) where
    both-stay : ShowsAll runner answer old → ShowsAll runner answer new
    both-stay (inl shown) =
        inl (all-stays _ _ kept knows shown.0, keeper-stays old new newer parts shown.1)
    both-stay (inr shown) = inr (reported shown)

    absent-stays : ShowsSome runner answer old → ShowsSome runner answer new
    absent-stays (inl shown) =
        inl (some-stays _ _ kept knows shown.0, keeper-stays old new newer parts shown.1)
    absent-stays (inr shown) = inr (reported shown)

    -- what shows that a file is too large stays
    large-stays : (name : Name) → ShowsLarge runner answer old name →
        ShowsLarge runner answer new name
    large-stays name (inl all) = inl (both-stay all)
    large-stays name (inr large) = inr (record {
      reader = large.reader;
      sound = large.sound;
      is_next = large.is_next;
      met = met-later _ _ _ _ old new newer parts large.met;
      says = large.says;
    })

    -- so does what shows that it was outrun
    outrun-stays : (number other : ℕ) → ShowsOutrun runner number other old →
        ShowsOutrun runner number other new
    outrun-stays number other (inl met) = inl (yielded-stays old new newer parts number other met)
    outrun-stays number other (inr met) =
        inr (met.0, change-later runner.token number other old new newer parts met.1)

    -- what shows a cause stays
    pub shown-stays : (cause : Cause) → IsShown runner answer old cause →
        IsShown runner answer new cause
    shown-stays Changed shown = earlier-stays old new newer parts shown
    shown-stays Same shown = both-stay shown
    shown-stays (Refused refusal) shown = both-stay shown
    shown-stays (RefusedLine line refusal) shown = both-stay shown
    shown-stays (BadSetting line) shown = both-stay shown
    shown-stays (NoTable table) shown = absent-stays shown
    shown-stays (TooLarge (File (Table table))) shown = large-stays (Table table) shown
    shown-stays (TooLarge (File Defs)) shown = large-stays Defs shown
    shown-stays (Outrun number other) shown = outrun-stays number other shown
    shown-stays cause shown = met-stays old new newer parts cause shown

  -- a session that keeps a number has reported nothing
  kept-reports : (history : History) (number : ℕ) →
      kept_number (standing runner.token history).own ≡ Some number →
      IsReported runner answer history → ⊥
  kept-reports history number kept reported =
      absurd (cc (sym kept ∙ ap kept_number reported.uncalled))

  module _ (commit : CommitStage) (number : ℕ) (Held Holds : Standing → Type 0)
      (had : (stood : Standing) → Held stood → kept_number stood.own ≡ Some number)
      (has : (stood : Standing) → Holds stood → kept_number stood.own ≡ Some number)
      (before now : Moment) where
    -- an answer that is due stays due
    due-stays : (was told : Option Past) →
        StandsWhere before.admits was runner.token (Runs runner commit Held) →
        StandsWhere now.admits told runner.token (Runs runner commit Holds) →
        LeavesWhere work runner.token was told → Extends was told →
        IfSome was (IsDue runner answer) → IfSome told (IsDue runner answer)
    due-stays None None stood stands left extends due = tt
    due-stays (Some was) (Some past) stood stands left extends due = record {
      asked = ap (λ (part : Work). part.command) left.1 ∙ due.asked;
      commits = ap (λ (part : Work). part.commit) left.1 ∙ due.commits;
      shown = shown-stays was.history past.history extends.1.0 extends.1.1
          (has _ stands.holds.holds ∙ sym (had _ stood.holds.holds))
          (ap (λ (part : Work). part.knows) left.1)
          (λ reported. absurd (kept-reports was.history number (had _ stood.holds.holds) reported))
          answer.outcome.cause due.shown;
    }
    due-stays was told stood stands left extends due = absurd left

    -- so the runner has it to give still
    pub gives-stay : At before runner commit Held → At now runner commit Holds →
        Leaves work runner.token before now → Extends before.told now.told →
        HasToGive before runner answer → HasToGive now runner answer
    gives-stay stood stands left extends gives = record {
      says = gives.says;
      due = due-stays before.told now.told stood stands left extends gives.due;
    }
