-- Claims: after each call of a session the next state is to tell what the call's answer shows: on the way
-- to the lock (`look-on` to `withdraw-ends`, `confirm-on`), and after a call that shows nothing
-- (`quiet-on`) or that failed (`fault-ends`). IntentMeeting has that after a read of the intent.
-- Way: each answer leads on or to the one refusal that it shows.
use Rattle.std.proofs.Common.{◌≡◌, ◌≢◌, refl, sym, ap, subst, ◌∙◌, ◌+◌, ℕ, List, inl, inr, Option, Some, None, Result, Ok, Err}
use Rattle.acct_text.specs.Bytes.{Bytes}
use Rattle.acct_text.specs.declared.Tab.{Tab}
use Rattle.acct_outside.specs.declared.CommitStage.{CommitStage}
use Rattle.acct_outside.specs.declared.CommitStage.TheVariants.{Before}
use Rattle.acct_outside.specs.declared.StageFault.{StageFault}
use Rattle.acct_outside.specs.declared.FolderFault.{FolderFault}
use Rattle.acct_outside.specs.declared.FolderFault.TheVariants.{Failed, Memory as NoMemory}
use Rattle.acct_outside.specs.declared.Created.{Created}
use Rattle.acct_outside.specs.declared.Created.TheVariants.{Done, Exists}
use Rattle.acct_outside.specs.declared.Verdict.{Verdict}
use Rattle.acct_outside.specs.declared.Verdict.TheVariants.{Alive, Dead}
use Rattle.acct_outside.specs.declared.Name.TheVariants.{Intent, Lock}
use Rattle.acct_outside.specs.Names.{greatest_lock}
use Rattle.acct_outside.specs.Tokens.{Token}
use Rattle.acct_outside.specs.Folder.{greatest}
use Rattle.acct_outside.specs.Calls.{Call, Answer, Found, lists, reads, asks, creates, removes, found_absent, found_bytes, found_too_large}
use Rattle.suite_rules.specs.OwnLock.{OwnLock, lock_uncalled, lock_made, made_number}
use Rattle.suite_rules.specs.Listing.{Listing}
use Rattle.suite_rules.specs.Outcomes.{LeadsTo, at_stage}
use Rattle.suite_rules.specs.Standing.{Standing}
use Rattle.lock_steps.specs.LockText.{IsDamaged}
use Rattle.lock_steps.specs.States.{Lister, Asker, Maker, Overtaken, Kept}
use Rattle.lock_steps.specs.Stands.{HasListed, HasLooked, HasReadHeld, HasJudged, HasMade, WasOvertaken}
use Rattle.lock_steps.specs.declared.LockRefusal.TheVariants.{Held as LockHeld, Gone as LockGone, Raced as LockRaced, Outrun as LockOutrun, Damaged, Exhausted as LocksExhausted}
use Rattle.lock_steps.specs.declared.LockEnd.{LockEnd}
use Rattle.lock_steps.specs.declared.LockEnd.TheVariants.{Refused, Folder}
use Rattle.lock_steps.specs.declared.judging.Told.{Told}
use Rattle.lock_steps.specs.declared.judging.Told.TheVariants.{Judged, Ask}
use Rattle.lock_steps.specs.declared.claiming.Confirmed.{Confirmed}
use Rattle.lock_steps.specs.declared.claiming.Confirmed.TheVariants.{Keeper, Loser}
use Rattle.lock_steps.specs.Outcomes.{Looks, Reads, AsksAlive, Claims, Confirms, Withdraws, as_it_came, loser_of}
use Rattle.commit_steps.specs.States.{next_name}
use Rattle.account_model.specs.declared.tool.Tool.{Tool}
use Rattle.suite_answers.specs.declared.cause.Which.TheVariants.{File}
use Rattle.suite_answers.specs.declared.cause.Cause.{Cause}
use Rattle.suite_answers.specs.declared.cause.Cause.TheVariants.{Held, Gone, Raced, Outrun, LockDamaged, Exhausted, IntentDamaged, TooLarge, Memory}
use Rattle.suite_answers.specs.declared.answer.Answer.{Answer as FinalAnswer}
use Rattle.suite_session.specs.declared.state.State.{State}
use Rattle.suite_session.specs.declared.state.State.TheVariants.{Withdrawing, ReadingIntent, Unlocking, Answering}
use Rattle.suite_session.specs.Causes.{HasListedNone}
use Rattle.suite_session.specs.Locking.{after_listing, cause_of_end, cause_of_fault}
use Rattle.suite_session.specs.Stands.{AnswersWith, LeavesWith, FindsNoMemory, IsMemory}
use Rattle.suite_session.specs.Telling.{IsLater, IsToTell, MayFollow}
use Rattle.suite_session.proofs.CauseLemmas.{told-cause, given-cause}
use Rattle.suite_session.proofs.TellingLemmas.{Shows}

-- what the call answered, a session that stood so is to tell in this state; after a call that failed it
-- is to tell all; and one that found no memory made no call
abbrev pub MeetsBy : (call : Call) → Result (Answer call) FolderFault → (Standing → Type 0) →
    State → Type 0
MeetsBy call (Ok given) Stood new = (stood : Standing) → Stood stood → (met : Cause) →
    Shows call given stood met → IsToTell new met
MeetsBy call (Err Failed) Stood new = (met : Cause) → IsToTell new met
MeetsBy call (Err NoMemory) Stood new = FindsNoMemory new

-- ---- Answers

-- an answer that tells a cause tells it, or that there was no memory, which comes later
pub answers-tell : (tool : Tool) (cause : Cause) (state : State) → AnswersWith tool cause state →
    IsToTell state cause
answers-tell tool cause (Answering answer) told = elim (told-cause tool cause answer told) [
  | inl is ↦ inl is
  | inr is ↦ inr (subst IsLater (sym is) tt)
]
answers-tell tool cause state told = absurd told

-- one that may come later tells all
pub answers-later : (tool : Tool) (cause : Cause) (state : State) → AnswersWith tool cause state →
    IsLater cause → (met : Cause) → IsToTell state met
answers-later tool cause (Answering answer) told later met =
    elim (told-cause tool cause answer told) [
      | inl is ↦ inr (subst IsLater (sym is) later)
      | inr is ↦ inr (subst IsLater (sym is) tt)
    ]
answers-later tool cause state told later met = absurd told

-- a fault of the folder, and want of memory, may
fault-later : (stage : CommitStage) (fault : FolderFault) → IsLater (cause_of_fault stage fault)
fault-later stage Failed = tt
fault-later stage NoMemory = tt

-- so the answer to it tells all
pub fault-tells : (tool : Tool) (stage : CommitStage) (fault : FolderFault) (state : State) →
    AnswersWith tool (cause_of_fault stage fault) state → (met : Cause) → IsToTell state met
fault-tells tool stage fault state told =
    answers-later tool (cause_of_fault stage fault) state told (fault-later stage fault)

-- a state that leaves with a cause is to tell it
pub leaves-tell : (tool : Tool) (keeper : Kept) (cause : Cause) (state : State) →
    LeavesWith tool keeper cause state → IsToTell state cause
leaves-tell tool keeper cause (Unlocking kept answer) is =
    ap (λ (given : FinalAnswer). given.outcome.cause) is.1 ∙ given-cause tool cause
leaves-tell tool keeper cause (Answering answer) is =
    inr (subst IsLater (sym (ap (λ (given : FinalAnswer). given.outcome.cause) is)) tt)
leaves-tell tool keeper cause state is = absurd is

-- ---- A fault of the folder

-- an answer to want of memory finds none
finds-none : (tool : Tool) (stage : CommitStage) (state : State) →
    AnswersWith tool (Memory stage) state → FindsNoMemory state
finds-none tool stage (Answering answer) told = elim (told-cause tool (Memory stage) answer told) [
  | inl is ↦ subst IsMemory (sym is) tt
  | inr is ↦ subst IsMemory (sym is) tt
]
finds-none tool stage state told = absurd told

-- after a call that came to a fault the answer to that is to tell all
pub fault-ends : (tool : Tool) (stage : CommitStage) (fault : FolderFault) (state : State) →
    AnswersWith tool (cause_of_fault stage fault) state → (call : Call)
    (answer : Result (Answer call) FolderFault) (Stood : Standing → Type 0) → answer ≡ Err fault →
    MeetsBy call answer Stood state
fault-ends tool stage fault state told call answer Stood is =
    subst (λ (one : Result (Answer call) FolderFault). MeetsBy call one Stood state) (sym is)
    (by-fault fault told)
  where
    by-fault : (one : FolderFault) → AnswersWith tool (cause_of_fault stage one) state →
        MeetsBy call (Err one) Stood state
    by-fault Failed answers = fault-tells tool stage Failed state answers
    by-fault NoMemory answers = finds-none tool stage state answers

-- ---- Calls that show nothing

-- no answer of the call shows anything
abbrev pub IsQuiet : Call → Type 0
IsQuiet call =
    (given : Answer call) (stood : Standing) (met : Cause) → Shows call given stood met → ⊥

-- after such a call that was done, nothing new is to be told
pub quiet-on : (call : Call) → IsQuiet call → (answer : Result (Answer call) FolderFault)
    (given : Answer call) (Stood : Standing → Type 0) (state : State) → answer ≡ Ok given →
    MeetsBy call answer Stood state
quiet-on call quiet answer given Stood state is =
    subst (λ (one : Result (Answer call) FolderFault). MeetsBy call one Stood state) (sym is)
    (λ stood held met shows. absurd (quiet given stood met shows))

-- a read of a table or of login.defs is one
pub reads-quiet : (next : Option Tab) → IsQuiet (reads (next_name next))
reads-quiet None given stood met shows = shows
reads-quiet (Some table) given stood met shows = shows

-- a step that can't be refused was done where it has its next state, and else came to its fault
pub leads-done : {A State Fault : Type 0} (next : State) (given_as : FolderFault → Fault)
    (answer : Result A FolderFault) (state : State) → LeadsTo next given_as answer (Ok state) →
    (given : A) × (answer ≡ Ok given)
leads-done next given_as (Ok answer) state shown = (answer, refl)
leads-done next given_as (Err fault) state shown = absurd shown

-- the fault in which a step of the commit ends is the one that its call met
pub leads-ended : {A State : Type 0} (next : State) (stage : CommitStage)
    (answer : Result A FolderFault) (fault : StageFault) →
    LeadsTo next (at_stage stage) answer (Err fault) → answer ≡ Err fault.fault
leads-ended next stage (Err came) fault shown =
    ap Err (sym (ap (λ (one : StageFault). one.fault) shown))
leads-ended next stage (Ok answer) fault shown = absurd shown

-- the fault in which a step of the lock ends is the one that its call met
pub locks-ended : {A State : Type 0} (next : State) (answer : Result A FolderFault)
    (fault : FolderFault) → LeadsTo next as_it_came answer (Err fault) → answer ≡ Err fault
locks-ended next (Err came) fault shown = ap Err (sym shown)
locks-ended next (Ok answer) fault shown = absurd shown

-- ---- On the way to the lock

-- a session without a lock has made none
pub none-made : (own : OwnLock) (number : ℕ) → own ≡ lock_uncalled → own ≡ lock_made number → ⊥
none-made own number uncalled made = absurd (cc (sym uncalled ∙ made))

-- it made one lock
one-made : (own : OwnLock) (number other : ℕ) → own ≡ lock_made number → own ≡ lock_made other →
    number ≡ other
one-made own number other made same =
    let both : Some number ≡ Some other = ap made_number (sym made ∙ same) in cc both

-- a session that has listed the locks isn't one that hasn't
listed-none : (own : OwnLock) (number : ℕ) (IsSuch : Listing → Type 0) (stood : Standing) →
    HasListedNone stood → HasListed own number IsSuch stood → ⊥
listed-none own number IsSuch stood none listed = absurd (cc (sym none.unlisted ∙ listed.listed))

-- the second listing, by the greatest lock that it shows
listed-tells : (state : State) (claimed : Maker) (numbers : List ℕ) →
    ((other : ℕ) → greatest numbers ≡ other →
    other ≢ claimed.number → IsToTell state (Outrun claimed.number other)) → (stood : Standing) →
    HasMade claimed stood → (met : Cause) → Shows lists numbers stood met → IsToTell state met
listed-tells state claimed numbers tells stood held Exhausted shows =
    absurd (none-made stood.own claimed.number shows.1.owns held)
listed-tells state claimed numbers tells stood held (Outrun number other) (is, apart, inl made) =
    let same = one-made stood.own claimed.number number held made in
    subst (λ (one : ℕ). IsToTell state (Outrun one other)) same
    (tells other is (subst (λ (one : ℕ). other ≢ one) (sym same) apart))
listed-tells state claimed numbers tells stood held (Outrun number other) (is, apart, inr judged) =
    absurd (none-made stood.own claimed.number judged.owns held)
listed-tells state claimed numbers tells stood held (IntentDamaged part) shows =
    absurd (none-made stood.own claimed.number shows.2.owns held)
listed-tells state claimed numbers tells stood held (TooLarge (File Intent)) shows =
    absurd (none-made stood.own claimed.number shows.owns held)
listed-tells state claimed numbers tells stood held met shows = absurd shows

module _ (tool : Tool) (state : State) where
  -- a step that came to a fault
  folder-ends : (came fault : FolderFault) → AnswersWith tool (cause_of_end (Folder came)) state →
      came ≡ fault → (call : Call) (Stood : Standing → Type 0) →
      MeetsBy call (Err fault) Stood state
  folder-ends came fault told is call Stood =
      fault-ends tool Before came state told call (Err fault) Stood (ap Err (sym is))

  -- the first listing shows no other greatest lock
  unlisted-tells : (numbers : List ℕ) (stood : Standing) → HasListedNone stood →
      (number other : ℕ) →
      Shows lists numbers stood (Outrun number other) → ⊥
  unlisted-tells numbers stood held number other (greatest_is, apart, inl made) =
      none-made stood.own number held.owns made
  unlisted-tells numbers stood held number other (greatest_is, apart, inr judged) =
      listed-none _ _ _ stood held judged

  -- the first listing, where the greatest lock doesn't have the last number
  look-none : (numbers : List ℕ) → greatest numbers ≢ greatest_lock → (stood : Standing) →
      HasListedNone stood → (met : Cause) → Shows lists numbers stood met → ⊥
  look-none numbers not_last stood held Exhausted shows = not_last shows.0
  look-none numbers not_last stood held (Outrun number other) shows =
      unlisted-tells numbers stood held number other shows
  look-none numbers not_last stood held (IntentDamaged part) shows =
      listed-none _ _ _ stood held shows.2
  look-none numbers not_last stood held (TooLarge (File Intent)) shows =
      listed-none _ _ _ stood held shows
  look-none numbers not_last stood held met shows = shows

  pub look-on : (looking : Token) (answer : Result (List ℕ) FolderFault) (seen : Lister) →
      Looks looking answer (Ok seen) → MeetsBy lists answer HasListedNone state
  look-on looking (Ok numbers) seen shown =
      λ stood held met shows. absurd (look-none numbers shown.0 stood held met shows)
  look-on looking (Err fault) seen shown = absurd shown

  -- where it does
  look-tells : (numbers : List ℕ) → AnswersWith tool Exhausted state → (stood : Standing) →
      HasListedNone stood → (met : Cause) → Shows lists numbers stood met → IsToTell state met
  look-tells numbers told stood held Exhausted shows = answers-tell tool Exhausted state told
  look-tells numbers told stood held (Outrun number other) shows =
      absurd (unlisted-tells numbers stood held number other shows)
  look-tells numbers told stood held (IntentDamaged part) shows =
      absurd (listed-none _ _ _ stood held shows.2)
  look-tells numbers told stood held (TooLarge (File Intent)) shows =
      absurd (listed-none _ _ _ stood held shows)
  look-tells numbers told stood held met shows = absurd shows

  pub look-ends : (looking : Token) (answer : Result (List ℕ) FolderFault) (end : LockEnd) →
      Looks looking answer (Err end) → AnswersWith tool (cause_of_end end) state →
      MeetsBy lists answer HasListedNone state
  look-ends looking (Ok numbers) (Refused LocksExhausted) shown told = look-tells numbers told
  look-ends looking (Err fault) (Folder came) shown told =
      folder-ends came fault told shown lists HasListedNone
  look-ends looking answer end shown told = absurd shown

  -- a read of a lock with one of the two texts
  free-none : (number : ℕ) (text : Bytes) → (IsDamaged text → ⊥) →
      (stood : Standing) (met : Cause) →
      Shows (reads (Lock number)) (found_bytes text) stood met → ⊥
  free-none number text sound stood (Gone gone) shows = absurd (cc shows.1)
  free-none number text sound stood (LockDamaged damaged) shows = sound shows.1
  free-none number text sound stood met shows = shows

  pub read-on : (seen : Lister) (answer : Result Found FolderFault) (told : Told) →
      Reads seen answer (Ok told) →
      MeetsBy (reads (Lock seen.greatest)) answer (HasLooked seen) state
  read-on seen (Ok (found_bytes text)) (Judged judged) shown = λ stood held met shows. absurd
      (free-none seen.greatest text (λ damage. damage.not_free shown.0) stood met shows)
  read-on seen (Ok (found_bytes text)) (Ask asking) shown = λ stood held met shows. absurd
      (free-none seen.greatest text
      (λ damage. damage.not_held asking.asked shown.0) stood met shows)
  read-on seen answer told shown = absurd shown

  -- one of a lock that is gone
  gone-tells : (number gone : ℕ) → gone ≡ number → AnswersWith tool (Gone gone) state →
      (stood : Standing) (met : Cause) → Shows (reads (Lock number)) found_absent stood met →
      IsToTell state met
  gone-tells number gone is told stood (Gone other) shows =
      subst (λ (one : ℕ). IsToTell state (Gone one)) (is ∙ shows.0)
      (answers-tell tool (Gone gone) state told)
  gone-tells number gone is told stood (LockDamaged damaged) shows = absurd shows.1
  gone-tells number gone is told stood met shows = absurd shows

  -- or damaged
  damage-tells : (number damaged : ℕ) (found : Found) → (found ≡ found_absent → ⊥) →
      damaged ≡ number → AnswersWith tool (LockDamaged damaged) state → (stood : Standing)
      (met : Cause) → Shows (reads (Lock number)) found stood met → IsToTell state met
  damage-tells number damaged found there is told stood (LockDamaged other) shows =
      subst (λ (one : ℕ). IsToTell state (LockDamaged one)) (is ∙ shows.0)
      (answers-tell tool (LockDamaged damaged) state told)
  damage-tells number damaged found there is told stood (Gone gone) shows = absurd (there shows.1)
  damage-tells number damaged found there is told stood met shows = absurd shows

  pub read-ends : (seen : Lister) (answer : Result Found FolderFault) (end : LockEnd) →
      Reads seen answer (Err end) → AnswersWith tool (cause_of_end end) state →
      MeetsBy (reads (Lock seen.greatest)) answer (HasLooked seen) state
  read-ends seen (Ok found_absent) (Refused (LockGone number)) shown told =
      λ stood held. gone-tells seen.greatest number shown told stood
  read-ends seen (Ok found_too_large) (Refused (Damaged number)) shown told =
      λ stood held. damage-tells seen.greatest number found_too_large (λ is. absurd (cc is)) shown
      told stood
  read-ends seen (Ok (found_bytes text)) (Refused (Damaged number)) shown told =
      λ stood held. damage-tells seen.greatest number (found_bytes text) (λ is. absurd (cc is))
      shown.1 told stood
  read-ends seen (Ok (found_bytes text)) (Folder NoMemory) shown told =
      λ stood held met shows. fault-tells tool Before NoMemory state told met
  read-ends seen (Err fault) (Folder came) shown told =
      folder-ends came fault told shown (reads (Lock seen.greatest)) (HasLooked seen)
  read-ends seen answer end shown told = absurd shown

  -- the verdict on its holder
  dead-none : (holder : Token) (stood : Standing) (met : Cause) →
      Shows (asks holder) Dead stood met → ⊥
  dead-none holder stood (Held held) shows = absurd (cc shows.1)
  dead-none holder stood met shows = shows

  pub ask-on : (asking : Asker) (answer : Result Verdict FolderFault) (judged : Lister) →
      AsksAlive asking answer (Ok judged) →
      MeetsBy (asks asking.asked) answer (HasReadHeld asking) state
  ask-on asking (Ok Dead) judged shown =
      λ stood held met shows. absurd (dead-none asking.asked stood met shows)
  ask-on asking (Ok Alive) judged shown = absurd shown
  ask-on asking (Err fault) judged shown = absurd shown

  held-tells : (asked holder : Token) → holder ≡ asked → AnswersWith tool (Held holder) state →
      (stood : Standing) (met : Cause) → Shows (asks asked) Alive stood met → IsToTell state met
  held-tells asked holder is told stood (Held held) shows =
      subst (λ (one : Token). IsToTell state (Held one)) (is ∙ shows.0)
      (answers-tell tool (Held holder) state told)
  held-tells asked holder is told stood met shows = absurd shows

  pub ask-ends : (asking : Asker) (answer : Result Verdict FolderFault) (end : LockEnd) →
      AsksAlive asking answer (Err end) → AnswersWith tool (cause_of_end end) state →
      MeetsBy (asks asking.asked) answer (HasReadHeld asking) state
  ask-ends asking (Ok Alive) (Refused (LockHeld holder)) shown told =
      λ stood held. held-tells asking.asked holder shown told stood
  ask-ends asking (Err fault) (Folder came) shown told =
      folder-ends came fault told shown (asks asking.asked) (HasReadHeld asking)
  ask-ends asking answer end shown told = absurd shown

  -- the create of the next lock
  done-none : (number : ℕ) (stood : Standing) (met : Cause) →
      Shows (creates number) Done stood met → ⊥
  done-none number stood (Raced raced) shows = absurd (cc shows.1)
  done-none number stood met shows = shows

  pub claim-on : (judged : Lister) (answer : Result Created FolderFault) (claimed : Maker) →
      Claims judged answer (Ok claimed) →
      MeetsBy (creates (judged.greatest + 1)) answer (HasJudged judged) state
  claim-on judged (Ok Done) claimed shown =
      λ stood held met shows. absurd (done-none (judged.greatest + 1) stood met shows)
  claim-on judged (Ok Exists) claimed shown = absurd shown
  claim-on judged (Err fault) claimed shown = absurd shown

  raced-tells : (number raced : ℕ) → raced ≡ number → AnswersWith tool (Raced raced) state →
      (stood : Standing) (met : Cause) → Shows (creates number) Exists stood met →
      IsToTell state met
  raced-tells number raced is told stood (Raced other) shows =
      subst (λ (one : ℕ). IsToTell state (Raced one)) (is ∙ shows.0)
      (answers-tell tool (Raced raced) state told)
  raced-tells number raced is told stood met shows = absurd shows

  pub claim-ends : (judged : Lister) (answer : Result Created FolderFault) (end : LockEnd) →
      Claims judged answer (Err end) → AnswersWith tool (cause_of_end end) state →
      MeetsBy (creates (judged.greatest + 1)) answer (HasJudged judged) state
  claim-ends judged (Ok Exists) (Refused (LockRaced number)) shown told =
      λ stood held. raced-tells (judged.greatest + 1) number shown told stood
  claim-ends judged (Err fault) (Folder came) shown told =
      folder-ends came fault told shown (creates (judged.greatest + 1)) (HasJudged judged)
  claim-ends judged answer end shown told = absurd shown

  pub confirm-ends : (claimed : Maker) (answer : Result (List ℕ) FolderFault) (end : LockEnd) →
      Confirms claimed answer (Err end) → AnswersWith tool (cause_of_end end) state →
      MeetsBy lists answer (HasMade claimed) state
  confirm-ends claimed (Ok numbers) (Refused (LockOutrun number other)) shown told =
      listed-tells state claimed numbers (λ one is apart.
      subst (λ (same : ℕ). IsToTell state (Outrun same one)) shown.1
      (subst (λ (same : ℕ). IsToTell state (Outrun number same)) (shown.2 ∙ is)
      (answers-tell tool (Outrun number other) state told)))
  confirm-ends claimed (Err fault) (Folder came) shown told =
      folder-ends came fault told shown lists (HasMade claimed)
  confirm-ends claimed answer end shown told = absurd shown

  -- the removal of a lock that was outrun: it tells that, or a fault that came later
  pub withdraw-ends : (loser : Overtaken) (answer : Result (Unit {0}) FolderFault) (end : LockEnd) →
      Withdraws loser answer end → AnswersWith tool (cause_of_end end) state →
      MeetsBy (removes (Lock loser.number)) answer (WasOvertaken loser) state
  withdraw-ends loser (Ok unit) end shown told = λ stood held met shows. absurd shows
  withdraw-ends loser (Err fault) (Folder came) shown told =
      folder-ends came fault told shown (removes (Lock loser.number)) (WasOvertaken loser)
  withdraw-ends loser (Err fault) (Refused refusal) shown told = absurd shown

  outrun-told : (loser : Overtaken) (answer : Result (Unit {0}) FolderFault) (end : LockEnd) →
      Withdraws loser answer end → AnswersWith tool (cause_of_end end) state →
      IsToTell state (Outrun loser.number loser.greatest)
  outrun-told loser (Ok unit) (Refused (LockOutrun number other)) shown told =
      subst (λ (same : ℕ). IsToTell state (Outrun same loser.greatest)) shown.0
      (subst (λ (same : ℕ). IsToTell state (Outrun number same)) shown.1
      (answers-tell tool (Outrun number other) state told))
  outrun-told loser (Err fault) (Folder came) shown told =
      fault-tells tool Before came state told (Outrun loser.number loser.greatest)
  outrun-told loser answer end shown told = absurd shown

  pub withdraw-told : (loser : Overtaken) (answer : Result (Unit {0}) FolderFault) (end : LockEnd) →
      Withdraws loser answer end → AnswersWith tool (cause_of_end end) state → (met : Cause) →
      IsToTell (Withdrawing loser) met →
      IsToTell state met × MayFollow met (removes (Lock loser.number))
  withdraw-told loser answer end shown told met is =
      subst (λ (one : Cause). IsToTell state one × MayFollow one (removes (Lock loser.number))) is
      (outrun-told loser answer end shown told, tt)

-- the second listing leads to a keeper, or to a session that was outrun and is to tell that
confirm-loser : (claimed : Maker) (numbers : List ℕ) (loser : Overtaken) →
    loser ≡ loser_of claimed numbers → (other : ℕ) → greatest numbers ≡ other →
    Outrun loser.number loser.greatest ≡ Outrun claimed.number other
confirm-loser claimed numbers loser is other greatest_is =
    ap (λ (one : Overtaken). Outrun one.number one.greatest) is
    ∙ ap (λ (one : ℕ). Outrun claimed.number one) greatest_is

-- so what is to be told behind it was met there
pub confirm-on : (claimed : Maker) (answer : Result (List ℕ) FolderFault) (confirmed : Confirmed) →
    Confirms claimed answer (Ok confirmed) →
    MeetsBy lists answer (HasMade claimed) (after_listing confirmed)
confirm-on claimed (Ok numbers) (Keeper keeper) shown =
    listed-tells (ReadingIntent keeper) claimed numbers
    (λ other is apart. absurd (apart (sym is ∙ shown.0)))
confirm-on claimed (Ok numbers) (Loser loser) shown =
    listed-tells (Withdrawing loser) claimed numbers
    (λ other is apart. confirm-loser claimed numbers loser shown.1 other is)
confirm-on claimed (Err fault) confirmed shown = absurd shown
