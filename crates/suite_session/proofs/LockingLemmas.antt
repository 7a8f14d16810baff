-- Claim: an end of a step on the way to the lock is told as a cause before the commit, and as a fault
-- of the folder where that failed.
use Rattle.std.proofs.Common.{◌≡◌, ◌≢◌, refl, sym, ap, subst, ◌<◌, ℕ, List, Result, Ok, Err}
use Rattle.acct_outside.specs.declared.FolderFault.{FolderFault}
use Rattle.acct_outside.specs.declared.Verdict.{Verdict}
use Rattle.acct_outside.specs.declared.Verdict.TheVariants.{Alive, Dead}
use Rattle.acct_outside.specs.declared.Created.{Created}
use Rattle.acct_outside.specs.declared.Created.TheVariants.{Done, Exists}
use Rattle.acct_outside.specs.Names.{greatest_lock}
use Rattle.acct_outside.specs.Tokens.{Token}
use Rattle.acct_outside.specs.Calls.{Found, found_bytes}
use Rattle.lock_steps.specs.States.{Lister, Asker, Maker, Overtaken, Kept}
use Rattle.lock_steps.specs.declared.judging.Told.TheVariants.{Judged, Ask}
use Rattle.lock_steps.specs.declared.claiming.Confirmed.TheVariants.{Keeper, Loser}
use Rattle.acct_outside.specs.declared.CommitStage.TheVariants.{Before}
use Rattle.acct_outside.specs.declared.FolderFault.TheVariants.{Failed}
use Rattle.lock_steps.specs.declared.LockRefusal.TheVariants.{Held}
use Rattle.lock_steps.specs.declared.LockEnd.{LockEnd}
use Rattle.lock_steps.specs.declared.LockEnd.TheVariants.{Refused, Folder}
use Rattle.lock_steps.specs.Outcomes.{folder_failed, Looks, Reads, AsksAlive, Claims, Confirms}
use Rattle.suite_answers.specs.Reasons.{stage_of}
use Rattle.suite_session.specs.Locking.{cause_of_end}
use Rattle.suite_session.specs.Stands.{IsOutside}
use Rattle.suite_session.proofs.CauseLemmas.{IsPlain}

-- it comes before the commit
pub end-stage : (end : LockEnd) → stage_of (cause_of_end end) ≡ Before
end-stage (Refused (Held token)) = refl
end-stage (Folder Failed) = refl
end-stage end = refl

-- it is no tool's answer
pub end-plain : (end : LockEnd) → IsPlain (cause_of_end end)
end-plain (Refused (Held token)) = tt
end-plain (Folder Failed) = tt
end-plain end = tt

-- it is a fault of the folder only where that failed
pub end-failed : (end : LockEnd) → IsOutside (cause_of_end end) → end ≡ folder_failed
end-failed (Folder Failed) fault = refl
end-failed (Refused (Held token)) fault = absurd fault
end-failed end fault = absurd fault

-- ---- A step keeps the token

-- a listing
pub looks-token : (token : Token) (answer : Result (List ℕ) FolderFault) (seen : Lister) →
    Looks token answer (Ok seen) → seen.token ≡ token
looks-token token (Ok numbers) seen shown = ap (λ (lister : Lister). lister.token) shown.1
looks-token token (Err fault) seen shown = absurd shown

-- which shows that the greatest lock doesn't have the last number
pub looks-last : (token : Token) (answer : Result (List ℕ) FolderFault) (seen : Lister) →
    Looks token answer (Ok seen) → seen.greatest ≢ greatest_lock
looks-last token (Ok numbers) seen shown =
    subst (λ (one : Lister). one.greatest ≢ greatest_lock) (sym shown.1) shown.0
looks-last token (Err fault) seen shown = absurd shown

-- a read of a free lock
pub reads-judged : (seen : Lister) (answer : Result Found FolderFault) (judged : Lister) →
    Reads seen answer (Ok (Judged judged)) → judged.token ≡ seen.token
reads-judged seen (Ok (found_bytes text)) judged shown =
    ap (λ (lister : Lister). lister.token) shown.1
reads-judged seen answer judged shown = absurd shown

-- a read of a lock that is held
pub reads-asking : (seen : Lister) (answer : Result Found FolderFault) (asking : Asker) →
    Reads seen answer (Ok (Ask asking)) → asking.token ≡ seen.token
reads-asking seen (Ok (found_bytes text)) asking shown =
    ap (λ (asker : Asker). asker.token) shown.1
reads-asking seen answer asking shown = absurd shown

-- it keeps the number too
pub reads-number : (seen : Lister) (answer : Result Found FolderFault) (asking : Asker) →
    Reads seen answer (Ok (Ask asking)) → asking.greatest ≡ seen.greatest
reads-number seen (Ok (found_bytes text)) asking shown =
    ap (λ (asker : Asker). asker.greatest) shown.1
reads-number seen answer asking shown = absurd shown

-- a verdict
pub asks-token : (asking : Asker) (answer : Result Verdict FolderFault) (judged : Lister) →
    AsksAlive asking answer (Ok judged) → judged.token ≡ asking.token
asks-token asking (Ok Dead) judged shown = ap (λ (lister : Lister). lister.token) shown
asks-token asking (Ok Alive) judged shown = absurd shown
asks-token asking (Err fault) judged shown = absurd shown

-- a create
pub claims-token : (judged : Lister) (answer : Result Created FolderFault) (claimed : Maker) →
    Claims judged answer (Ok claimed) → claimed.token ≡ judged.token
claims-token judged (Ok Done) claimed shown = ap (λ (maker : Maker). maker.token) shown
claims-token judged (Ok Exists) claimed shown = absurd shown
claims-token judged (Err fault) claimed shown = absurd shown

-- a second listing that shows the own lock as the greatest
pub confirms-keeper : (claimed : Maker) (answer : Result (List ℕ) FolderFault) (keeper : Kept) →
    Confirms claimed answer (Ok (Keeper keeper)) → keeper.token ≡ claimed.token
confirms-keeper claimed (Ok numbers) keeper shown = ap (λ (kept : Kept). kept.token) shown.1
confirms-keeper claimed (Err fault) keeper shown = absurd shown

-- one that shows a greater lock
pub confirms-loser : (claimed : Maker) (answer : Result (List ℕ) FolderFault) (loser : Overtaken) →
    Confirms claimed answer (Ok (Loser loser)) → loser.token ≡ claimed.token
confirms-loser claimed (Ok numbers) loser shown =
    ap (λ (overtaken : Overtaken). overtaken.token) shown.1
confirms-loser claimed (Err fault) loser shown = absurd shown

-- which is greater than the own
pub confirms-less : (claimed : Maker) (answer : Result (List ℕ) FolderFault) (loser : Overtaken) →
    Confirms claimed answer (Ok (Loser loser)) → loser.number < loser.greatest
confirms-less claimed (Ok numbers) loser shown =
    subst (λ (one : Overtaken). one.number < one.greatest) (sym shown.1) shown.0
confirms-less claimed (Err fault) loser shown = absurd shown
