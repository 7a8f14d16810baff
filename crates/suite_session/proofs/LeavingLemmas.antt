-- Claims: what a session has left at its answer stays left as long as its own lock, its last
-- listing and its knowledge do (`left-same`, `clean-stays`). A session that has freed its lock has
-- left what it must (`freed-left`), and so has one that keeps no lock (`none-left`), as each that
-- was refused its lock (`look-unkept` to `withdraw-unkept`).
-- Way: a refusal comes with an answer of the folder, and after such a call the own lock is as it
-- was or made, and not kept.
use Rattle.std.proofs.Common.{◌≡◌, refl, sym, ap, subst, ◌∙◌, ◌+◌, ◌<◌, ℕ, Bool, if◌then◌else◌, List, Option, Some, None, IfSome, Result, Ok, Err, ne_eqb, arith}
use Rattle.acct_outside.specs.declared.CommitStage.{CommitStage}
use Rattle.acct_outside.specs.declared.CommitStage.TheVariants.{Before}
use Rattle.acct_outside.specs.declared.Created.{Created}
use Rattle.acct_outside.specs.declared.Created.TheVariants.{Exists}
use Rattle.acct_outside.specs.declared.FolderFault.{FolderFault}
use Rattle.acct_outside.specs.declared.FolderFault.TheVariants.{Failed, Memory as NoMemory}
use Rattle.acct_outside.specs.declared.Name.TheVariants.{Lock}
use Rattle.acct_outside.specs.declared.Verdict.{Verdict}
use Rattle.acct_outside.specs.Tokens.{Token}
use Rattle.acct_outside.specs.Folder.{greatest}
use Rattle.acct_outside.specs.Calls.{Call, Answer, Found, lists, reads, asks, creates, removes, done}
use Rattle.acct_outside.specs.Others.{Admission}
use Rattle.acct_outside.specs.Moment.{Past}
use Rattle.suite_rules.specs.OwnLock.{OwnLock, lock_made, lock_kept, kept_number, create_step, confirm_step, own_step}
use Rattle.suite_rules.specs.Standing.{Standing, standing}
use Rattle.suite_rules.specs.Steps.{Work, work}
use Rattle.suite_rules.proofs.Parts.{LeavesWhere, StandsWhere}
use Rattle.lock_steps.specs.States.{Lister, Asker, Maker, Overtaken}
use Rattle.lock_steps.specs.Stands.{HasLooked, HasReadHeld, HasJudged, HasMade, WasOvertaken, KnowsNone, HasFreed}
use Rattle.lock_steps.specs.Watching.{ConfirmsFound, Gatherer, HasGathered}
use Rattle.lock_steps.specs.declared.LockRefusal.TheVariants.{Outrun}
use Rattle.lock_steps.specs.declared.LockEnd.{LockEnd}
use Rattle.lock_steps.specs.declared.LockEnd.TheVariants.{Refused, Folder}
use Rattle.lock_steps.specs.Outcomes.{Looks, Reads, AsksAlive, Claims, Confirms, Withdraws}
use Rattle.suite_answers.specs.declared.cause.Cause.{Cause}
use Rattle.suite_session.specs.Causes.{HasListedNone}
use Rattle.suite_session.specs.Locking.{cause_of_end, cause_of_fault}
use Rattle.suite_session.specs.Stands.{IsStopped, IsDecided, KnowsDecided, HasLeft}

-- a fault of the folder, or want of memory, stops the command
pub fault-stopped : (stage : CommitStage) (fault : FolderFault) →
    IsStopped (cause_of_fault stage fault)
fault-stopped stage Failed = tt
fault-stopped stage NoMemory = tt

-- the session keeps no lock
abbrev pub KeepsNone : Standing → Type 0
KeepsNone stood = kept_number stood.own ≡ None

-- ---- That no intent stands

module _ (token : Token) (cause : Cause) where
  -- a session knows it as long as its knowledge stays
  pub clean-same : (was past : Past) →
      (standing token past.history).knows ≡ (standing token was.history).knows →
      KnowsDecided token cause was → KnowsDecided token cause past
  clean-same was past knows clean decided =
      let none = clean decided in
      (none.0, knows ∙ none.1)

  -- so it does after a step that leaves its work
  pub clean-stays : (was told : Option Past) → LeavesWhere work token was told →
      IfSome was (KnowsDecided token cause) → IfSome told (KnowsDecided token cause)
  clean-stays None None kept clean = tt
  clean-stays (Some was) (Some past) kept clean =
      clean-same was past (ap (λ (part : Work). part.knows) kept.1) clean
  clean-stays was told kept clean = absurd kept

  -- with a cause that no tool decided it need not know it
  pub clean-else : (IsDecided cause → ⊥) → (told : Option Past) →
      IfSome told (KnowsDecided token cause)
  clean-else undecided None = tt
  clean-else undecided (Some past) = λ decided. absurd (undecided decided)

  module _ (admits : Admission) (Holds : Standing → Type 0) where
    -- one that stands so that it knows it
    pub clean-known : ((stood : Standing) → Holds stood → KnowsNone stood.knows) →
        (told : Option Past) → StandsWhere admits told token Holds →
        IfSome told (KnowsDecided token cause)
    clean-known knows None stands = tt
    clean-known knows (Some past) stands = λ decided. knows _ stands.holds

    -- ---- What a session has left

    -- one that has freed the lock that it kept
    pub freed-left : (number : ℕ) → ((stood : Standing) → Holds stood → HasFreed number stood) →
        (told : Option Past) → StandsWhere admits told token Holds →
        IfSome told (KnowsDecided token cause) → IfSome told (HasLeft token cause)
    freed-left number freed None stands clean = tt
    freed-left number freed (Some past) stands clean =
        let held = freed _ stands.holds in
        record {
          freed = λ other kept.
              let same : number ≡ other = cc (sym (ap kept_number held.owns) ∙ kept) in
              subst (λ (one : ℕ). HasFreed one (standing token past.history)) same held;
          clean = λ kept. clean;
        }

  -- one that keeps no lock
  pub none-left : (admits : Admission) (told : Option Past) →
      StandsWhere admits told token KeepsNone → IfSome told (HasLeft token cause)
  none-left admits None stands = tt
  none-left admits (Some past) stands = record {
    freed = λ number kept. absurd (cc (sym stands.holds ∙ kept));
    clean = λ kept. absurd (cc (sym stands.holds ∙ kept.1));
  }

  -- it has left this as long as its own lock, its last listing and its knowledge stay
  pub left-same : (was past : Past) →
      (standing token past.history).own ≡ (standing token was.history).own →
      (standing token past.history).listing ≡ (standing token was.history).listing →
      (standing token past.history).knows ≡ (standing token was.history).knows →
      HasLeft token cause was → HasLeft token cause past
  left-same was past own listing knows left = record {
    freed = λ number kept.
        let held = left.freed number (ap kept_number (sym own) ∙ kept) in
        record {
          owns = own ∙ held.owns;
          listing = held.listing;
          listed = listing ∙ held.listed;
          is_greatest = held.is_greatest;
          is_such = held.is_such;
        };
    clean = λ kept. clean-same was past knows
        (left.clean (kept.0, ap kept_number (sym own) ∙ kept.1));
  }

-- ---- A session that was refused its lock

-- the call was answered, and leaves a session that stood so with no lock that it keeps
pub record LeavesUnkept (call : Call) (answer : Result (Answer call) FolderFault)
    (Held : Standing → Type 0) : Type 0 where
  pub given : Answer call
  pub is : answer ≡ Ok given
  pub unkept : (stood : Standing) → Held stood →
      kept_number (own_step call (done given) stood.own) ≡ None

-- the number that a session keeps after a listing
abbrev kept_after : List ℕ → OwnLock → Option ℕ
kept_after numbers own = kept_number (confirm_step (greatest numbers) own)

-- the first listing
pub look-unkept : (looking : Token) (answer : Result (List ℕ) FolderFault) (end : LockEnd) →
    Looks looking answer (Err end) → (IsStopped (cause_of_end end) → ⊥) →
    LeavesUnkept lists answer HasListedNone
look-unkept looking (Ok numbers) end shown goes_on = record {
  given = numbers;
  is = refl;
  unkept = λ stood none. ap (kept_after numbers) none.owns;
}
look-unkept looking (Err fault) (Folder came) shown goes_on =
    absurd (goes_on (fault-stopped Before came))
look-unkept looking (Err fault) (Refused refusal) shown goes_on = absurd shown

-- the read of the greatest lock
pub read-unkept : (seen : Lister) (answer : Result Found FolderFault) (end : LockEnd) →
    Reads seen answer (Err end) → (IsStopped (cause_of_end end) → ⊥) →
    LeavesUnkept (reads (Lock seen.greatest)) answer (HasLooked seen)
read-unkept seen (Ok found) end shown goes_on = record {
  given = found;
  is = refl;
  unkept = λ stood looked. ap kept_number looked.owns;
}
read-unkept seen (Err fault) (Folder came) shown goes_on =
    absurd (goes_on (fault-stopped Before came))
read-unkept seen (Err fault) (Refused refusal) shown goes_on = absurd shown

-- the verdict on its holder
pub ask-unkept : (asking : Asker) (answer : Result Verdict FolderFault) (end : LockEnd) →
    AsksAlive asking answer (Err end) → (IsStopped (cause_of_end end) → ⊥) →
    LeavesUnkept (asks asking.asked) answer (HasReadHeld asking)
ask-unkept asking (Ok verdict) end shown goes_on = record {
  given = verdict;
  is = refl;
  unkept = λ stood read. ap kept_number read.owns;
}
ask-unkept asking (Err fault) (Folder came) shown goes_on =
    absurd (goes_on (fault-stopped Before came))
ask-unkept asking (Err fault) (Refused refusal) shown goes_on = absurd shown

-- the create of the next lock
pub claim-unkept : (judged : Lister) (answer : Result Created FolderFault) (end : LockEnd) →
    Claims judged answer (Err end) → (IsStopped (cause_of_end end) → ⊥) →
    LeavesUnkept (creates (judged.greatest + 1)) answer (HasJudged judged)
claim-unkept judged (Ok Exists) end shown goes_on = record {
  given = Exists;
  is = refl;
  unkept = λ stood judges. ap (λ (own : OwnLock).
      kept_number (create_step (judged.greatest + 1) (done Exists) own)) judges.owns;
}
claim-unkept judged (Err fault) (Folder came) shown goes_on =
    absurd (goes_on (fault-stopped Before came))
claim-unkept judged answer end shown goes_on = absurd shown

-- a listing without the own lock as the greatest
unkept-below : (claimed : Maker) (numbers : List ℕ) (stood : Standing) →
    greatest numbers < claimed.number → HasMade claimed stood →
    kept_number (own_step lists (done numbers) stood.own) ≡ None
unkept-below claimed numbers stood less made = ap (kept_after numbers) made
    ∙ ap (λ (same : Bool). kept_number
    (if same then lock_kept claimed.number else lock_made claimed.number))
    (ne_eqb (greatest numbers) claimed.number (λ same. omega (arith, less, same)))

-- the second listing
pub confirm-unkept : (claimed : Maker) (answer : Result (List ℕ) FolderFault) (end : LockEnd) →
    Confirms claimed answer (Err end) → (IsStopped (cause_of_end end) → ⊥) →
    LeavesUnkept lists answer (HasMade claimed)
confirm-unkept claimed (Ok numbers) (Refused (Outrun number other)) shown goes_on = record {
  given = numbers;
  is = refl;
  unkept = λ stood made. unkept-below claimed numbers stood shown.0 made;
}
confirm-unkept claimed (Err fault) (Folder came) shown goes_on =
    absurd (goes_on (fault-stopped Before came))
confirm-unkept claimed answer end shown goes_on = absurd shown

-- the listing that ends the reads of a report
pub report-unkept : (reading : Gatherer) (answer : Result (List ℕ) FolderFault)
    (numbers : List ℕ) → answer ≡ Ok numbers → LeavesUnkept lists answer (HasGathered reading)
report-unkept reading answer numbers is = record {
  given = numbers;
  is = is;
  unkept = λ stood gathered. ap (kept_after numbers) gathered.owns;
}

-- also where it shows that the report was outrun
pub outrun-unkept : (reading : Gatherer) (answer : Result (List ℕ) FolderFault) (end : LockEnd) →
    ConfirmsFound reading answer (Err end) → (IsStopped (cause_of_end end) → ⊥) →
    LeavesUnkept lists answer (HasGathered reading)
outrun-unkept reading (Ok numbers) end shown goes_on =
    report-unkept reading (Ok numbers) numbers refl
outrun-unkept reading (Err fault) (Folder came) shown goes_on =
    absurd (goes_on (fault-stopped Before came))
outrun-unkept reading (Err fault) (Refused refusal) shown goes_on = absurd shown

-- the removal of a lock that was outrun
pub withdraw-unkept : (loser : Overtaken) (answer : Result (Unit {0}) FolderFault)
    (end : LockEnd) → Withdraws loser answer end → (IsStopped (cause_of_end end) → ⊥) →
    LeavesUnkept (removes (Lock loser.number)) answer (WasOvertaken loser)
withdraw-unkept loser (Ok unit) end shown goes_on = record {
  given = unit;
  is = refl;
  unkept = λ stood overtaken. ap kept_number overtaken.owns;
}
withdraw-unkept loser (Err fault) (Folder came) shown goes_on =
    absurd (goes_on (fault-stopped Before came))
withdraw-unkept loser (Err fault) (Refused refusal) shown goes_on = absurd shown
