-- Claims: each turn up to the second listing leaves a call fewer (`look-calls` to `claim-calls`), and that
-- listing as many more as it shows lower locks (`listing-calls`). Way: by the state that follows.
use Rattle.std.proofs.Common.{◌≡◌, refl, sym, ap, ◌<◌, ◌≤◌, ℕ, Bool, true, false, nat_lt, filter, List, ◌∷◌, ◌∙◌, length, inl, inr, Option, None, IfSome, Result, Ok, Err, if◌then◌else◌, arith}
use Rattle.acct_outside.specs.declared.FolderFault.{FolderFault}
use Rattle.acct_outside.specs.Calls.{lists}
use Rattle.acct_outside.specs.Moment.{Past}
use Rattle.acct_outside.specs.Tokens.{Token}
use Rattle.account_model.specs.Request.{Request, is_report}
use Rattle.lock_steps.specs.Stands.{HasMade}
use Rattle.lock_steps.specs.States.{Asker, Lister, Kept, Maker}
use Rattle.lock_steps.specs.Outcomes.{Confirms}
use Rattle.lock_steps.specs.declared.judging.Told.{Told}
use Rattle.lock_steps.specs.declared.judging.Told.TheVariants.{Judged, Ask}
use Rattle.lock_steps.specs.declared.claiming.Confirmed.{Confirmed}
use Rattle.lock_steps.specs.declared.claiming.Confirmed.TheVariants.{Keeper, Loser}
use Rattle.suite_session.specs.declared.state.State.{State}
use Rattle.suite_session.specs.declared.state.State.TheVariants.{Looking, Reading, Asking, Claiming, Confirming, ReadingIntent, Watching, Withdrawing}
use Rattle.suite_session.specs.Runner.{Runner}
use Rattle.suite_session.specs.Causes.{Met}
use Rattle.suite_session.specs.Counts.{Listed, Nears, last_lower}
use Rattle.suite_session.specs.Left.{appends_left, calls_left}
use Rattle.suite_session.specs.Locking.{ShowsFew, after_judging, after_look, after_read, after_listing}
use Rattle.acct_outside.specs.Journal.{Entry, makes, reply_of}
use Rattle.suite_session.proofs.MetLemmas.{told-as}
use Rattle.suite_session.proofs.TextsLemmas.{goes, staged_then}

-- once the greatest lock is judged
judged-calls : (old : State) (judged : Lister) (report : Bool) →
    calls_left (Claiming judged) < calls_left old →
    appends_left (Claiming judged) ≤ appends_left old → None ≡ staged_then old →
    Nears old (if report then Watching judged else Claiming judged)
judged-calls old judged true fewer few none = record {
  fewer = omega (arith, fewer);
  appends = omega arith;
  next = inr (omega arith);
  goes_on = goes old (Watching judged) none;
}
judged-calls old judged false fewer few none = record {
  fewer = fewer;
  appends = few;
  next = inl tt;
  goes_on = goes old (Claiming judged) none;
}

-- after the first listing
looked-calls : (request : Request) (looking : Token) (seen : Lister) (is_none : Bool) →
    Nears (Looking looking) (if is_none then after_judging request seen else Reading seen)
looked-calls request looking seen true =
    judged-calls (Looking looking) seen (is_report request) (omega arith) (omega arith) refl
looked-calls request looking seen false = record {
  fewer = omega arith;
  appends = omega arith;
  next = inl tt;
  goes_on = goes (Looking looking) (Reading seen) refl;
}

-- the state behind the first listing is nearer to the end
pub look-calls : (request : Request) (looking : Token) (seen : Lister) →
    Nears (Looking looking) (after_look request seen)
look-calls request looking seen = looked-calls request looking seen _

-- after the read of the greatest lock
pub read-calls : (request : Request) (seen : Lister) (told : Told) →
    Nears (Reading seen) (after_read request told)
read-calls request seen (Judged judged) =
    judged-calls (Reading seen) judged (is_report request) (omega arith) (omega arith) refl
read-calls request seen (Ask asking) = record {
  fewer = omega arith;
  appends = omega arith;
  next = inl tt;
  goes_on = goes (Reading seen) (Asking asking) refl;
}

-- after the verdict, and after the create
pub ask-calls : (request : Request) (asking : Asker) (judged : Lister) →
    Nears (Asking asking) (after_judging request judged)
ask-calls request asking judged =
    judged-calls (Asking asking) judged (is_report request) (omega arith) (omega arith) refl

-- to confirm a lock is nearer to the end than to claim it
pub claim-calls : (judged : Lister) (claimed : Maker) → Nears (Claiming judged) (Confirming claimed)
claim-calls judged claimed = record {
  fewer = omega arith;
  appends = omega arith;
  next = inl tt;
  goes_on = goes (Claiming judged) (Confirming claimed) refl;
}

-- after the second listing
pub listing-calls : (told : Option Past) (journal : List Entry) (runner : Runner) (claimed : Maker)
    (answer : Result (List ℕ) FolderFault) (confirmed : Confirmed) →
    Confirms claimed answer (Ok confirmed) → ((numbers : List ℕ) → answer ≡ Ok numbers →
    IfSome told (λ past. Met runner.token lists numbers (HasMade claimed) past.history)) →
    (older : List Entry) → journal ≡ makes lists (reply_of lists answer) ∷ older →
    ShowsFew confirmed → Listed told journal runner (Confirming claimed) (after_listing confirmed)
listing-calls told journal runner claimed (Ok numbers) (Keeper keeper) shown got older noted few =
    record {
      lower = length keeper.lower;
      most = few;
      counts = told-as told (λ past met. inr (record {
        number = claimed.number;
        numbers = numbers;
        listed = met;
        kept = shown.0;
        are_lower = ap (λ (one : Kept). length one.lower) shown.1;
      })) (got numbers refl);
      shown = inr (ap (λ (one : Kept). length one.lower) shown.1
          ∙ ap (λ (number : ℕ). length (filter (λ other. nat_lt other number) numbers))
          (sym shown.0)
          ∙ sym (ap last_lower noted));
      fewer = omega arith;
      appends = omega arith;
      goes_on = goes (Confirming claimed) (ReadingIntent keeper) refl;
    }
listing-calls told journal runner claimed (Ok numbers) (Loser loser) shown got older noted few =
    record {
      lower = 0;
      most = omega arith;
      counts = told-as told (λ past met. inl refl) (got numbers refl);
      shown = inl refl;
      fewer = omega arith;
      appends = omega arith;
      goes_on = goes (Confirming claimed) (Withdrawing loser) refl;
    }
listing-calls told journal runner claimed (Err fault) confirmed shown got older noted few =
    absurd shown
