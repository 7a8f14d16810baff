-- Claims: the program's call of each state is the one that it names, and the rules permit it
-- (`next-listing` to `next-unlocking`); a keeper on its way out removes the first of the lower locks
-- (`unlocks-some`), and with none left it stages the free text (`unlocks-none`).
-- Way: the rules by the standing of the state (PermitsLemmas); the bounds of a lock by the state.
use Rattle.std.proofs.Common.{◌≡◌, refl, sym, ap, subst, ℕ, zero, suc, ◌+◌, ◌<◌, ◌≤◌, length, slice_index, arith}
use Rattle.std.proofs.lemmas.Option.{slice_get-get_or, slice_get_past}
use Rattle.acct_outside.specs.declared.Call.TheVariants.{Locks, Read, Verdict as Ask, Create, Write, Rename, Remove}
use Rattle.acct_outside.specs.declared.Name.TheVariants.{FreeStage, Lock}
use Rattle.acct_outside.specs.Names.{greatest_lock}
use Rattle.acct_outside.specs.Tokens.{free_text}
use Rattle.acct_outside.specs.Calls.{Call, asks, creates, lists, reads, removes, renames, writes}
use Rattle.acct_outside.specs.Contract.{IsLockNumber}
use Rattle.suite_rules.specs.Knowledge.{Knowledge}
use Rattle.suite_rules.specs.Standing.{Standing}
use Rattle.suite_rules.specs.Rules.{free_listing, free_read, free_verdict}
use Rattle.lock_steps.specs.States.{Asker, Kept, Lister, Maker, Overtaken}
use Rattle.lock_steps.specs.NextCall.{IsCallWhere, IsNextCall, next_or, unlocking_call}
use Rattle.lock_steps.specs.Stands.{HasJudged, HasLooked, HasReadHeld, HasStagedFree, Keeps, WasOvertaken}
use Rattle.lock_steps.proofs.PermitsLemmas.{may-create, may-move-free, may-remove, may-stage-free, may-withdraw}

-- a listing is free
pub next-listing : (Stands : Standing → Type 0) → IsNextCall Stands lists Locks
next-listing Stands = record {
  names = refl;
  later = λ has. tt;
  permitted = λ deeds stood held. free_listing;
}

-- the read of the greatest lock is free too
pub next-read : (seen : Lister) → seen.greatest < greatest_lock →
    IsCallWhere (0 < seen.greatest) (λ deeds. HasLooked seen) (reads (Lock seen.greatest))
    (Read (Lock seen.greatest))
next-read seen below = record {
  names = refl;
  later = λ has. record { low = has; high = omega (arith, below) };
  permitted = λ deeds stood held. free_read (Lock seen.greatest);
}

-- and so is the question for its holder
pub next-question : (asking : Asker) →
    IsNextCall (HasReadHeld asking) (asks asking.asked) (Ask asking.asked)
next-question asking = record {
  names = refl;
  later = λ has. tt;
  permitted = λ deeds stood held. free_verdict asking.asked;
}

-- the create of the next lock
pub next-create : (judged : Lister) → judged.greatest < greatest_lock →
    IsNextCall (HasJudged judged) (creates (judged.greatest + 1)) (Create (judged.greatest + 1))
next-create judged below = record {
  names = refl;
  later = λ has. record { low = omega arith; high = omega (arith, below) };
  permitted = λ deeds stood held. may-create deeds stood judged below held;
}

-- the removal of the own lock that was outrun
pub next-withdrawal : (loser : Overtaken) → IsLockNumber loser.number →
    loser.number < loser.greatest →
    IsNextCall (WasOvertaken loser) (removes (Lock loser.number)) (Remove (Lock loser.number))
next-withdrawal loser bounds above = record {
  names = refl;
  later = λ has. bounds;
  permitted = λ deeds stood held. may-withdraw deeds stood loser above held;
}

-- the move of the free text to the own lock
pub next-freeing : (freeing : Maker) → IsLockNumber freeing.number →
    IsNextCall (HasStagedFree freeing) (renames FreeStage (Lock freeing.number))
    (Rename FreeStage (Lock freeing.number))
next-freeing freeing bounds = record {
  names = refl;
  later = λ has. (tt, bounds);
  permitted = λ deeds stood held. may-move-free deeds stood freeing held;
}

-- what isn't none is some
pub some-left : (count left : ℕ) → count ≡ left → (count ≡ 0 → ⊥) → 0 < left
some-left zero left is some = absurd (some refl)
some-left (suc count) left is some = omega (arith, is)

-- with lower locks left it removes the first
pub unlocks-some : (keeper : Kept) → 0 < length keeper.lower →
    unlocking_call keeper ≡ removes (Lock (slice_index keeper.lower 0))
unlocks-some keeper some = ap
    (next_or (writes FreeStage free_text) (λ number. removes (Lock number)))
    (slice_get-get_or keeper.lower 0 0 some)

-- with none left it stages the free text
pub unlocks-none : (keeper : Kept) → length keeper.lower ≡ 0 →
    unlocking_call keeper ≡ writes FreeStage free_text
unlocks-none keeper none = ap
    (next_or (writes FreeStage free_text) (λ number. removes (Lock number)))
    (slice_get_past keeper.lower 0 (omega (arith, none)))

module _ (keeper : Kept) (Knows : Knowledge → Type 0) where
  -- the removal of a lower lock
  pub next-removal : 0 < length keeper.lower → IsLockNumber keeper.number →
      1 ≤ slice_index keeper.lower 0 → slice_index keeper.lower 0 < keeper.number →
      IsNextCall (Keeps keeper Knows) (unlocking_call keeper)
      (Remove (Lock (slice_index keeper.lower 0)))
  next-removal some bounds low below = subst (λ (next : Call). IsNextCall (Keeps keeper Knows) next
      (Remove (Lock (slice_index keeper.lower 0)))) (sym (unlocks-some keeper some)) (record {
        names = refl;
        later = λ has. record {
          low = low;
          high = (let high = bounds.high in omega (arith, below, high));
        };
        permitted = λ deeds stood held.
            may-remove deeds stood keeper Knows (slice_index keeper.lower 0) below held;
      })

  -- the write of the free text
  pub next-unlocking : length keeper.lower ≡ 0 →
      IsNextCall (Keeps keeper Knows) (unlocking_call keeper) (Write FreeStage free_text)
  next-unlocking none = subst (λ (next : Call). IsNextCall (Keeps keeper Knows) next
      (Write FreeStage free_text)) (sym (unlocks-none keeper none)) (record {
        names = refl;
        later = λ has. tt;
        permitted = λ deeds stood held. may-stage-free deeds stood keeper Knows held;
      })
