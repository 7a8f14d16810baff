-- Claims: the call of a recovery is that for the first table that is left: its next piece, and with none
-- left its move (`moves-on`, `moves-whole`); and with no table left it removes the intent
-- (`recovers-none`). Each is one that the rules permit (`stages-next`, `removes-next`, `appends-next`,
-- `moves-next`).
use Rattle.std.proofs.Common.{◌≡◌, ℕ, zero, suc, ◌<◌, refl, sym, ap, subst, ◌∙◌, Bool, if◌then◌else◌, length, slice_get, Option, Some, Result, Ok, Err, arith}
use Rattle.std.specs.Prelude.{IfOk, nat_lt, option_map, unwrap_or}
use Rattle.std.proofs.lemmas.Option.{slice_get_past}
use Rattle.acct_outside.specs.declared.Call.{Call as FolderCall}
use Rattle.acct_outside.specs.declared.Name.TheVariants.{Intent}
use Rattle.acct_outside.specs.Calls.{Call, removes}
use Rattle.acct_outside.specs.NamedCalls.{IsLaterCall, call_of}
use Rattle.intent_file.specs.Intent.{NewTable}
use Rattle.suite_rules.specs.Outcomes.{installs, stages, stages_more, pieces_left}
use Rattle.lock_steps.specs.NextCall.{IsNextCall, next_or}
use Rattle.recovery.specs.NextCall.{moves_table, moving_call, recovering_call}
use Rattle.recovery.specs.States.{Mover, Recoverer, moving_pieces}
use Rattle.recovery.specs.Stands.{HasStagedNext, Recovers}
use Rattle.recovery.proofs.CarryLemmas.{may-append, may-move, may-remove, may-stage, some-staged}

-- where a number of what is left isn't 0, some is left
pub some-left : (count left : ℕ) → count ≡ left → (count ≡ 0 → ⊥) → 0 < left
some-left zero left is some = absurd (some refl)
some-left (suc count) left is some = omega (arith, is)

module _ (recovering : Recoverer) where
  -- with none left it removes the intent
  pub recovers-none : length recovering.left ≡ 0 → recovering_call recovering ≡ removes Intent
  recovers-none none = ap (next_or (removes Intent) stages)
      (slice_get_past recovering.left 0 (omega (arith, none)))

  -- the rules permit that
  pub removes-next : (call : FolderCall) → length recovering.left ≡ 0 →
      call_of call ≡ removes Intent → IsLaterCall call →
      IsNextCall (Recovers recovering) (recovering_call recovering) call
  removes-next call none is later = subst (λ (next : Call).
      IsNextCall (Recovers recovering) next call) (sym (recovers-none none)) (record {
        names = is;
        later = λ has. later;
        permitted = λ deeds stood held. may-remove held.intent recovering.keeper recovering.left
            stood held.carries deeds none;
      })

  module _ (next : NewTable) (is_next : slice_get recovering.left 0 ≡ Some next) where
    -- the write of the bytes of the first that is left
    pub stages-next : {E : Type 0} (named : Result FolderCall E) →
        IfOk named (λ call. call_of call ≡ stages next) → IfOk named IsLaterCall →
        IfOk named (IsNextCall (Recovers recovering) (recovering_call recovering))
    stages-next (Err fault) is later = tt
    stages-next (Ok call) is later = subst (λ (next : Call).
        IsNextCall (Recovers recovering) next call)
        (sym (ap (next_or (removes Intent) stages) is_next)) (record {
          names = is;
          later = λ has. later;
          permitted = λ deeds stood held. may-stage held.intent recovering.keeper recovering.left
              stood held.carries next is_next deeds;
        })

module _ (moving : Mover) (next : NewTable) (is_next : slice_get moving.left 0 ≡ Some next) where
  -- as many pieces are left as of this table
  pub pieces-are : moving_pieces moving ≡ pieces_left moving.staged next.bytes
  pieces-are = ap (λ (found : Option NewTable).
      unwrap_or (option_map (λ one. pieces_left moving.staged one.bytes) found) 0) is_next

  -- with a piece left it is appended
  pub moves-on : 0 < moving_pieces moving → moving_call moving ≡ stages_more moving.staged next
  moves-on some =
      ap (next_or (removes Intent) (moves_table moving)) is_next
      ∙ ap (λ (more : Bool). if more then stages_more moving.staged next else installs next)
      (some-staged (pieces_left moving.staged next.bytes)
      (subst (λ (count : ℕ). 0 < count) pieces-are some))

  -- with none left its bytes are moved
  pub moves-whole : moving_pieces moving ≡ 0 → moving_call moving ≡ installs next
  moves-whole none =
      ap (next_or (removes Intent) (moves_table moving)) is_next
      ∙ ap (λ (count : ℕ). if nat_lt 0 count then stages_more moving.staged next else installs next)
      (sym pieces-are ∙ none)

  -- the append of the next piece
  pub appends-next : {E : Type 0} (named : Result FolderCall E) → 0 < moving_pieces moving →
      IfOk named (λ call. call_of call ≡ stages_more moving.staged next) → IfOk named IsLaterCall →
      IfOk named (IsNextCall (HasStagedNext moving) (moving_call moving))
  appends-next (Err fault) some is later = tt
  appends-next (Ok call) some is later = subst (λ (next : Call).
      IsNextCall (HasStagedNext moving) next call) (sym (moves-on some)) (record {
        names = is;
        later = λ has. later;
        permitted = λ deeds stood held. may-append held.recovers.intent moving.keeper moving.left
            stood held.recovers.carries next is_next moving.staged held.staged deeds;
      })

  -- the move to the table
  pub moves-next : (call : FolderCall) → 0 < moving.staged → moving_pieces moving ≡ 0 →
      call_of call ≡ installs next → IsLaterCall call →
      IsNextCall (HasStagedNext moving) (moving_call moving) call
  moves-next call begun none is later = subst (λ (next : Call).
      IsNextCall (HasStagedNext moving) next call) (sym (moves-whole none)) (record {
        names = is;
        later = λ has. later;
        permitted = λ deeds stood held. may-move held.recovers.intent moving.keeper moving.left
            stood held.recovers.carries next is_next deeds moving.staged begun
            (sym pieces-are ∙ none) held.staged;
      })
