-- Claim: each call of a recovery leads its session from the standing of one state to that of the
-- next (`clean-after-read`, `recovers-after-read`, `staged-after-write`, `staged-after-append`,
-- `recovers-after-move`, `clean-after-removal`). Way: a read of the intent concerns no lock, so the session keeps its number
-- (`keeps-aside`); the other calls carry the intent out (CarryLemmas).
use Rattle.std.proofs.Common.{◌≡◌, refl, sym, subst, true, false, [], slice_get, Some}
use Rattle.std.proofs.lemmas.List.Elements.{All-nil}
use Rattle.acct_text.specs.Bytes.{Bytes}
use Rattle.acct_outside.specs.declared.Name.TheVariants.{Intent}
use Rattle.acct_outside.specs.Calls.{Found, reads, removes, done, found_absent, found_bytes}
use Rattle.intent_file.specs.Intent.{NewTable}
use Rattle.suite_rules.specs.Standing.{Standing, standing_step}
use Rattle.suite_rules.specs.Outcomes.{stages, stages_more, installs}
use Rattle.suite_rules.proofs.KeeperParts.{knows-next}
use Rattle.lock_steps.specs.States.{Kept}
use Rattle.lock_steps.specs.Stands.{Keeps, KnowsAnything, KnowsNoneYet}
use Rattle.lock_steps.proofs.KeeperLemmas.{keeps-aside}
use Rattle.recovery.specs.States.{Mover, Recoverer, appended_once, moved_once, mover_of}
use Rattle.recovery.specs.Stands.{Recovers, HasStagedNext}
use Rattle.recovery.specs.Outcomes.{ListsAll}
use Rattle.recovery.proofs.CarryLemmas.{carries-after-append, carries-after-write, first-staged, more-staged, carries-after-move, none-after-removal}

-- What the read of the intent leads to.
module _ (keeper : Kept) (stood : Standing) (keeps : Keeps keeper KnowsAnything stood) where
  -- whatever it found, the session keeps its number
  pub keeps-after-read : (found : Found) →
      Keeps keeper KnowsAnything (standing_step (reads Intent) (done found) stood)
  keeps-after-read found = keeps-aside keeper KnowsAnything KnowsAnything (reads Intent) tt
      (done found) stood tt keeps

  -- absent, it knows that none stands
  pub clean-after-read :
      Keeps keeper KnowsNoneYet (standing_step (reads Intent) (done found_absent) stood)
  clean-after-read = keeps-aside keeper KnowsNoneYet KnowsAnything (reads Intent) tt
      (done found_absent) stood refl keeps

  -- bytes that read as an intent are known, with all of its tables left
  pub recovers-after-read : (bytes : Bytes) (recovering : Recoverer) →
      ListsAll keeper bytes recovering →
      Recovers recovering (standing_step (reads Intent) (done (found_bytes bytes)) stood)
  recovers-after-read bytes recovering all =
      subst (λ (other : Recoverer). Recovers other
      (standing_step (reads Intent) (done (found_bytes bytes)) stood)) (sym all.is)
      (record {
        intent = all.intent;
        carries = record {
          keeps = keeps-after-read (found_bytes bytes);
          bytes = bytes;
          reads_it = all.reads_it;
          placed = λ table. false;
          knows = knows-next (reads Intent) (done (found_bytes bytes)) stood keeper.number
              keeps.locks.owns;
          moved = [];
          lists = refl;
          in_place = All-nil (λ (new : NewTable). false ≡ true);
        };
      })

-- What the calls with the next of the tables lead to.
module _ (recovering : Recoverer) (next : NewTable)
    (is_next : slice_get recovering.left 0 ≡ Some next) (answer : Unit {0}) (stood : Standing) where
  -- a write of its first piece stages that
  pub staged-after-write : Recovers recovering stood →
      HasStagedNext (mover_of 1 recovering) (standing_step (stages next) (done answer) stood)
  staged-after-write held = record {
    recovers = record {
      intent = held.intent;
      carries = carries-after-write held.intent recovering.keeper recovering.left stood held.carries
          next is_next answer;
    };
    staged = first-staged held.intent recovering.keeper recovering.left stood held.carries next
        is_next answer;
  }

-- What the calls with the pieces of that table lead to.
module _ (moving : Mover) (next : NewTable) (is_next : slice_get moving.left 0 ≡ Some next)
    (answer : Unit {0}) (stood : Standing) (held : HasStagedNext moving stood) where
  -- an append of the next piece stages one more
  pub staged-after-append :
      HasStagedNext (appended_once moving)
      (standing_step (stages_more moving.staged next) (done answer) stood)
  staged-after-append = record {
    recovers = record {
      intent = held.recovers.intent;
      carries = carries-after-append held.recovers.intent moving.keeper moving.left stood
          held.recovers.carries next is_next moving.staged answer;
    };
    staged = more-staged held.recovers.intent moving.keeper moving.left stood
        held.recovers.carries next is_next moving.staged held.staged answer;
  }

  -- a move of the staged bytes puts the table in place
  pub recovers-after-move :
      Recovers (moved_once moving) (standing_step (installs next) (done answer) stood)
  recovers-after-move = record {
    intent = held.recovers.intent;
    carries = carries-after-move held.recovers.intent moving.keeper moving.left stood
        held.recovers.carries next is_next answer;
  }

-- a removal of the intent leaves the keeper clean
pub clean-after-removal : (recovering : Recoverer) (answer : Unit {0}) (stood : Standing) →
    Recovers recovering stood →
    Keeps recovering.keeper KnowsNoneYet (standing_step (removes Intent) (done answer) stood)
clean-after-removal recovering answer stood held =
    none-after-removal held.intent recovering.keeper recovering.left stood held.carries answer
