-- Claim: the rules permit each call in the standing of its state. The listings, the read and the
-- verdict are free; the other calls have one rule each, whose premises are parts of the standing.
use Rattle.std.proofs.Common.{arith, refl, sym, ap, subst, ℕ, ◌+◌, ◌<◌}
use Rattle.acct_outside.specs.declared.Name.TheVariants.{FreeStage, Lock}
use Rattle.acct_outside.specs.Names.{greatest_lock}
use Rattle.acct_outside.specs.Tokens.{free_text}
use Rattle.acct_outside.specs.Calls.{creates, writes, renames, removes}
use Rattle.suite_rules.specs.Deeds.{SuiteDeeds}
use Rattle.suite_rules.specs.OwnLock.{made_number}
use Rattle.suite_rules.specs.Knowledge.{Knowledge}
use Rattle.suite_rules.specs.Standing.{Standing}
use Rattle.suite_rules.specs.Rules.{Permits, create_rule, staging_rule, move_rule, moves_free, unlock_rule, unlocks_below, unlocks_own}
use Rattle.lock_steps.specs.States.{Lister, Maker, Overtaken, Kept}
use Rattle.lock_steps.specs.Stands.{HasJudged, WasOvertaken, Keeps, HasStagedFree}

module _ (deeds : SuiteDeeds) (stood : Standing) where
  -- a create one above the judged greatest lock
  pub may-create : (judged : Lister) → judged.greatest < greatest_lock → HasJudged judged stood →
      Permits deeds stood (creates (judged.greatest + 1))
  may-create judged below held = create_rule (judged.greatest + 1) (record {
    listing = held.listing;
    listed = held.listed;
    first = held.owns;
    one_above = ap (λ (number : ℕ). number + 1) (sym held.is_greatest);
    judged = held.is_such;
    not_exhausted = subst (λ (number : ℕ). number < greatest_lock) (sym held.is_greatest) below;
  })

  -- the removal of the own lock where a greater one stands
  pub may-withdraw : (loser : Overtaken) → loser.number < loser.greatest →
      WasOvertaken loser stood → Permits deeds stood (removes (Lock loser.number))
  may-withdraw loser above held = unlock_rule loser.number (unlocks_own (record {
    made = ap made_number held.owns;
    listing = held.listing;
    listed = held.listed;
    follows = held.is_such;
    greater = subst (λ (number : ℕ). loser.number < number) (sym held.is_greatest) above;
  }))

  -- a keeper's removal of a lower lock
  pub may-remove : (keeper : Kept) (Knows : Knowledge → Type 0) (number : ℕ) →
      number < keeper.number → Keeps keeper Knows stood →
      Permits deeds stood (removes (Lock number))
  may-remove keeper Knows number below held = unlock_rule number
      (unlocks_below (record { number = keeper.number; keeps = held.locks.owns }) below)

  -- a keeper's write of the free text
  pub may-stage-free : (keeper : Kept) (Knows : Knowledge → Type 0) → Keeps keeper Knows stood →
      Permits deeds stood (writes FreeStage free_text)
  may-stage-free keeper Knows held = staging_rule FreeStage free_text
      (record { number = keeper.number; keeps = held.locks.owns })
      (record { staging = refl; small = omega arith })

  -- the move of the free text to the own lock
  pub may-move-free : (freeing : Maker) → HasStagedFree freeing stood →
      Permits deeds stood (renames FreeStage (Lock freeing.number))
  may-move-free freeing held = move_rule FreeStage (Lock freeing.number)
      (record { number = freeing.number; keeps = held.locks.owns }) (moves_free held.staged)
