-- Claims: after the listing that ends the reads of a report, the state is to tell what that shows: where the
-- same lock is the greatest, that the intent can't be read (`reported-tells`), and else that it was outrun
-- (`outrun-ends`). That is also what the report met (`damaged-shown`, `large-shown`, `outrun-met`).
-- Way: a session has one last listing (`one-listing`), so what was watched at the intent is what is told of
-- it.
use Rattle.std.proofs.Common.{◌≡◌, ◌≢◌, refl, sym, ap, subst, ◌∙◌, true, ℕ, List, inl, inr, Option, Some, Result, Ok, Err}
use Rattle.acct_text.specs.Bytes.{Bytes}
use Rattle.acct_outside.specs.declared.CommitStage.TheVariants.{Before}
use Rattle.acct_outside.specs.declared.FolderFault.{FolderFault}
use Rattle.acct_outside.specs.declared.Name.TheVariants.{Intent}
use Rattle.acct_outside.specs.Folder.{greatest}
use Rattle.acct_outside.specs.Calls.{Found, found_absent, found_bytes, found_too_large, lists}
use Rattle.acct_outside.specs.History.{History}
use Rattle.acct_outside.specs.Moment.{Past}
use Rattle.acct_outside.specs.Tokens.{Token}
use Rattle.account_model.specs.declared.tool.Tool.{Tool}
use Rattle.account_model.specs.Request.{is_report}
use Rattle.intent_file.specs.Parts.{FirstFault}
use Rattle.intent_file.proofs.FirstFaultIsOne.{first_fault_is_one_holds}
use Rattle.suite_rules.specs.Listing.{Listing}
use Rattle.suite_rules.specs.Standing.{Standing}
use Rattle.lock_steps.specs.declared.LockRefusal.TheVariants.{Outrun as LockOutrun}
use Rattle.lock_steps.specs.declared.LockEnd.{LockEnd}
use Rattle.lock_steps.specs.declared.LockEnd.TheVariants.{Refused, Folder}
use Rattle.lock_steps.specs.declared.gathered.IntentFound.{IntentFound}
use Rattle.lock_steps.specs.declared.gathered.IntentFound.TheVariants.{Absent, Listed, TooLarge, Damaged}
use Rattle.lock_steps.specs.Gathered.{TellsIntent}
use Rattle.lock_steps.specs.Stands.{HasJudged}
use Rattle.lock_steps.specs.Watching.{ConfirmsFound, Gatherer, HasGathered, Report}
use Rattle.suite_answers.specs.declared.cause.Which.TheVariants.{File}
use Rattle.suite_answers.specs.declared.cause.Cause.{Cause}
use Rattle.suite_answers.specs.declared.cause.Cause.TheVariants.{Exhausted, IntentDamaged, Outrun, TooLarge as IsTooLarge}
use Rattle.suite_session.specs.declared.state.State.{State}
use Rattle.suite_session.specs.Runner.{Runner}
use Rattle.suite_session.specs.Causes.{HasWatched, Met, MetBadIntent, MetLargeIntent, lister}
use Rattle.suite_session.specs.Due.{ShowsOutrun}
use Rattle.suite_session.specs.Locking.{cause_of_end}
use Rattle.suite_session.specs.Reporting.{AnswersIntent, ReportsTo}
use Rattle.suite_session.specs.Stands.{AnswersWith}
use Rattle.suite_session.specs.Telling.{IsToTell}
use Rattle.suite_session.proofs.MeetingLemmas.{MeetsBy, answers-tell, fault-ends, none-made}
use Rattle.suite_session.proofs.MetLemmas.{Ended, Got, Meets, fault-meets, told-as, met-weaker}
use Rattle.suite_session.proofs.TellingLemmas.{Shows}

-- ---- The last listing

-- a session has one last listing
one-listing : (stood : Standing) (one other : Listing) → stood.listing ≡ Some one →
    stood.listing ≡ Some other → one ≡ other
one-listing stood one other is also = let both : Some one ≡ Some other = sym is ∙ also in cc both

module _ (number : ℕ) (found : Found) (reading : Gatherer) (stood : Standing)
    (held : HasGathered reading stood) (watched : HasWatched number Intent found stood) where
  -- so its greatest lock has one number
  watched-number : number ≡ reading.number
  watched-number = sym watched.is_greatest
      ∙ (ap (λ (one : Listing). greatest one.numbers)
      (one-listing stood watched.listing held.listing watched.listed held.listed)
      ∙ held.is_greatest)

  -- and what was watched at the intent is what is told of it
  watched-intent : TellsIntent found reading.gathered.intent
  watched-intent =
      let same = one-listing stood watched.listing held.listing watched.listed held.listed in
      let both : Some found ≡ Some held.is_such.1.found = sym watched.is_such.1
      ∙ (ap (λ (one : Listing). one.watched Intent) same ∙ held.is_such.1.at_intent) in
      subst (λ (one : Found). TellsIntent one reading.gathered.intent) (sym (cc both))
      held.is_such.1.told

-- what was gathered was found under a judged lock
gathered-judged : (token : Token) (reading : Gatherer) (stood : Standing) →
    HasGathered reading stood → HasJudged (lister token reading.number) stood
gathered-judged token reading stood held = record {
  owns = held.owns;
  listing = held.listing;
  listed = held.listed;
  is_greatest = held.is_greatest;
  is_such = held.is_such.0;
}

-- and so was what it found at the intent
gathered-watched : (number : ℕ) (found : Found) (reading : Gatherer) (stood : Standing) →
    number ≡ reading.number → (held : HasGathered reading stood) → held.is_such.1.found ≡ found →
    HasWatched number Intent found stood
gathered-watched number found reading stood same held is = record {
  owns = held.owns;
  listing = held.listing;
  listed = held.listed;
  is_greatest = held.is_greatest ∙ sym same;
  is_such = (held.is_such.0, held.is_such.1.at_intent ∙ ap Some is);
}

-- ---- What the listing shows

module _ (state : State) (reading : Gatherer) (numbers : List ℕ)
    (outrun : (other : ℕ) → greatest numbers ≡ other → other ≢ reading.number →
    IsToTell state (Outrun reading.number other))
    (damaged : greatest numbers ≡ reading.number → (bytes : Bytes) (part : ℕ) →
    FirstFault bytes part → TellsIntent (found_bytes bytes) reading.gathered.intent →
    IsToTell state (IntentDamaged part))
    (large : greatest numbers ≡ reading.number →
    TellsIntent found_too_large reading.gathered.intent →
    IsToTell state (IsTooLarge (File Intent))) where
  -- the state is to tell it
  listing-tells : (stood : Standing) → HasGathered reading stood → (met : Cause) →
      Shows lists numbers stood met → IsToTell state met
  listing-tells stood held Exhausted shows =
      absurd (cc (sym shows.1.unlisted ∙ held.listed))
  listing-tells stood held (Outrun number other) (greatest_is, apart, inl made) =
      absurd (none-made stood.own number held.owns made)
  listing-tells stood held (Outrun number other) (greatest_is, apart, inr judged) =
      let same : reading.number ≡ number = sym held.is_greatest
      ∙ (ap (λ (one : Listing). greatest one.numbers)
      (one-listing stood held.listing judged.listing held.listed judged.listed)
      ∙ judged.is_greatest) in
      subst (λ (one : ℕ). IsToTell state (Outrun one other)) same
      (outrun other greatest_is (subst (λ (one : ℕ). other ≢ one) (sym same) apart))
  listing-tells stood held (IntentDamaged part) shows =
      damaged (watched-number _ _ reading stood held shows.2) shows.0 part shows.1
      (watched-intent _ _ reading stood held shows.2)
  listing-tells stood held (IsTooLarge (File Intent)) shows =
      large (watched-number _ _ reading stood held shows)
      (watched-intent _ _ reading stood held shows)
  listing-tells stood held met shows = absurd shows

module _ (runner : Runner) (state : State) (reading : Gatherer) where
  abbrev tool : Tool
  tool = runner.asked.request.tool

  -- an intent of which a part doesn't stand is told so
  damaged-told : (intent : IntentFound) (bytes : Bytes) (part : ℕ) → FirstFault bytes part →
      TellsIntent (found_bytes bytes) intent →
      ((other : ℕ) → intent ≡ Damaged other → AnswersWith tool (IntentDamaged other) state) →
      IsToTell state (IntentDamaged part)
  damaged-told (Damaged other) bytes part first told answers =
      subst (λ (one : ℕ). IsToTell state (IntentDamaged one))
      (first_fault_is_one_holds.one_part bytes other part told first)
      (answers-tell tool (IntentDamaged other) state (answers other refl))
  damaged-told Listed bytes part first told answers =
      absurd (first_fault_is_one_holds.none_if_read bytes part told.0 first told.1)
  damaged-told Absent bytes part first told answers = absurd told
  damaged-told TooLarge bytes part first told answers = absurd told

  -- so is one that is too large
  large-told : (intent : IntentFound) → TellsIntent found_too_large intent →
      (intent ≡ TooLarge → AnswersWith tool (IsTooLarge (File Intent)) state) →
      IsToTell state (IsTooLarge (File Intent))
  large-told TooLarge told answers =
      answers-tell tool (IsTooLarge (File Intent)) state (answers refl)
  large-told intent told answers = absurd told

  module _ (report : Report) (reports : ReportsTo runner report state) where
    -- what the state answers with where the intent doesn't read
    damaged-answers : (part : ℕ) → report.gathered.intent ≡ Damaged part →
        AnswersWith tool (IntentDamaged part) state
    damaged-answers part is =
        subst (λ (one : IntentFound). AnswersIntent runner report.gathered one state) is reports

    large-answers : report.gathered.intent ≡ TooLarge →
        AnswersWith tool (IsTooLarge (File Intent)) state
    large-answers is =
        subst (λ (one : IntentFound). AnswersIntent runner report.gathered one state) is reports

    -- the first claim
    pub reported-tells : (answer : Result (List ℕ) FolderFault) →
        ConfirmsFound reading answer (Ok report) → MeetsBy lists answer (HasGathered reading) state
    reported-tells (Ok numbers) shown = listing-tells state reading numbers
        (λ other is apart. absurd (apart (sym is ∙ shown.0)))
        (λ same bytes part first told. damaged-told reading.gathered.intent bytes part first told
        (λ other is. damaged-answers other (kept ∙ is)))
        (λ same told. large-told reading.gathered.intent told (λ is. large-answers (kept ∙ is)))
      where
        kept : report.gathered.intent ≡ reading.gathered.intent
        kept = ap (λ (one : Report). one.gathered.intent) shown.1
    reported-tells (Err fault) shown = absurd shown

  -- the second claim
  pub outrun-ends : (answer : Result (List ℕ) FolderFault) (end : LockEnd) →
      ConfirmsFound reading answer (Err end) → AnswersWith tool (cause_of_end end) state →
      MeetsBy lists answer (HasGathered reading) state
  outrun-ends (Ok numbers) (Refused (LockOutrun number other)) shown told =
      listing-tells state reading numbers
      (λ one is apart. subst (λ (first : ℕ). IsToTell state (Outrun first one)) shown.1
      (subst (λ (last : ℕ). IsToTell state (Outrun number last)) (shown.2 ∙ is)
      (answers-tell tool (Outrun number other) state told)))
      (λ same bytes part first tells. absurd (shown.0 same))
      (λ same tells. absurd (shown.0 same))
  outrun-ends (Err fault) (Folder came) shown told =
      fault-ends tool Before came state told lists (Err fault) (HasGathered reading)
      (ap Err (sym shown))
  outrun-ends answer end shown told = absurd shown

-- ---- What the report met

module _ (runner : Runner) (reading : Gatherer) (numbers : List ℕ) (history : History)
    (same : greatest numbers ≡ reading.number)
    (met : Met runner.token lists numbers (HasGathered reading) history) where
  -- an intent of which this part doesn't stand
  pub damaged-shown : (part : ℕ) → reading.gathered.intent ≡ Damaged part →
      MetBadIntent runner.token part history
  damaged-shown part is = by-found met.stood.is_such.1.found refl
      (subst (TellsIntent met.stood.is_such.1.found) is met.stood.is_such.1.told)
    where
      by-found : (found : Found) → met.stood.is_such.1.found ≡ found →
          TellsIntent found (Damaged part) → MetBadIntent runner.token part history
      by-found (found_bytes bytes) same_found first = (
        bytes,
        first,
        inr (
          numbers,
          record {
            newer = met.newer;
            older = met.older;
            parts = met.parts;
            stood = gathered-watched (greatest numbers) (found_bytes bytes) reading _ same
                met.stood same_found;
          },
        ),
      )
      by-found found_absent same_found first = absurd first
      by-found found_too_large same_found first = absurd first

  -- one that is too large
  pub large-shown : reading.gathered.intent ≡ TooLarge → MetLargeIntent runner.token history
  large-shown is = by-found met.stood.is_such.1.found refl
      (subst (TellsIntent met.stood.is_such.1.found) is met.stood.is_such.1.told)
    where
      by-found : (found : Found) → met.stood.is_such.1.found ≡ found →
          TellsIntent found TooLarge → MetLargeIntent runner.token history
      by-found found_too_large same_found told = inr (
        numbers,
        record {
          newer = met.newer;
          older = met.older;
          parts = met.parts;
          stood = gathered-watched (greatest numbers) found_too_large reading _ same met.stood
              same_found;
        },
      )
      by-found (found_bytes bytes) same_found told = absurd told
      by-found found_absent same_found told = absurd told

-- where another lock is the greatest, it was outrun
pub outrun-met : (runner : Runner) (told : Option Past) (reading : Gatherer)
    (answer : Result (List ℕ) FolderFault) (end : LockEnd) →
    is_report runner.asked.request ≡ true → ConfirmsFound reading answer (Err end) →
    ((numbers : List ℕ) → answer ≡ Ok numbers →
    Got runner told lists numbers (HasGathered reading)) →
    Ended runner told lists answer → Meets runner told (cause_of_end end)
outrun-met runner told reading (Ok numbers) (Refused (LockOutrun number other)) is shown got ended =
    told-as told (λ past met.
    subst (λ (one : ℕ). ShowsOutrun runner one other past.history) (sym shown.1)
    (subst (λ (one : ℕ). ShowsOutrun runner reading.number one past.history) (sym shown.2)
    (inr (
      is,
      (
        numbers,
        refl,
        shown.0,
        met-weaker runner.token lists numbers (HasGathered reading)
            (HasJudged (lister runner.token reading.number)) (gathered-judged runner.token reading)
            past.history met,
      ),
    )))) (got numbers refl)
outrun-met runner told reading (Err fault) (Folder came) report shown got ended =
    fault-meets runner told lists came fault ended shown
outrun-met runner told reading answer end report shown got ended = absurd shown
