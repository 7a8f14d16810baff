-- Claims: the call of a keeper that installs is that for the table at its place: its next piece, where
-- one is left (`adds-on`), and else the next step (`installs-some`); with no step left it removes the
-- intent (`installs-none`). The program's call is that one, and the rules permit it (`next-removal`,
-- `next-piece`, `next-table`, `next-new`).
-- Way: the rules by the standing of the state (CarryLemmas of recovery).
use Rattle.std.specs.Prelude.{IfOk, nat_lt}
use Rattle.std.proofs.Common.{◌≡◌, refl, sym, ap, subst, ◌∙◌, ℕ, ◌<◌, Bool, true, false, if◌then◌else◌, Some, Result, Ok, Err}
use Rattle.acct_outside.specs.declared.Call.{Call as FolderCall}
use Rattle.acct_outside.specs.declared.Call.TheVariants.{Remove}
use Rattle.acct_outside.specs.declared.Name.TheVariants.{Intent}
use Rattle.acct_outside.specs.Calls.{Call, removes}
use Rattle.acct_outside.specs.NamedCalls.{IsLaterCall, call_of}
use Rattle.intent_file.specs.Intent.{NewTable}
use Rattle.suite_rules.specs.Outcomes.{installs, pieces_left, stages}
use Rattle.lock_steps.specs.NextCall.{IsNextCall, next_or}
use Rattle.recovery.proofs.CarryLemmas.{may-append, may-move, may-remove, may-stage, some-staged}
use Rattle.commit_steps.specs.NextCall.{installing_call, installs_table}
use Rattle.commit_steps.specs.Outcomes.{install_call, installs_more}
use Rattle.commit_steps.specs.Stands.{Installs}
use Rattle.commit_steps.specs.States.{Walker, has_staged, install_pieces, intended, next_table, steps_left, tables_left}
use Rattle.commit_steps.proofs.InstallLemmas.{begun-of, first-left, install-staged, install-unstaged, none-installs, pieces-are, staged-some}
use Rattle.commit_steps.proofs.NextLemmas.{no-table}

module _ (walker : Walker) where
  -- with no step left it removes the intent
  pub installs-none : steps_left walker ≡ 0 → installing_call walker ≡ removes Intent
  installs-none none = ap (next_or (removes Intent) (installs_table walker)) (no-table walker none)

  module _ (next : NewTable) (is_next : next_table walker ≡ Some next) where
    -- with a piece left it is appended
    pub adds-on : 0 < install_pieces walker → installing_call walker ≡ installs_more walker next
    adds-on some =
        ap (next_or (removes Intent) (installs_table walker)) is_next
        ∙ ap (λ (more : Bool). if more then installs_more walker next else install_call walker next)
        (some-staged (pieces_left walker.staged next.bytes)
        (subst (λ (count : ℕ). 0 < count) (pieces-are walker next is_next) some))

    -- with none left it is the next step for that table
    pub installs-some : install_pieces walker ≡ 0 →
        installing_call walker ≡ install_call walker next
    installs-some none =
        ap (next_or (removes Intent) (installs_table walker)) is_next
        ∙ ap (λ (count : ℕ).
        if nat_lt 0 count then installs_more walker next else install_call walker next)
        (sym (pieces-are walker next is_next) ∙ none)

-- ---- The program's calls

module _ (walker : Walker) where
  -- the removal of the intent, once all are in place
  pub next-removal : steps_left walker ≡ 0 →
      IsNextCall (Installs walker) (installing_call walker) (Remove Intent)
  next-removal none =
      subst (λ (next : Call). IsNextCall (Installs walker) next (Remove Intent))
      (sym (installs-none walker none)) (record {
        names = refl;
        later = λ has. tt;
        permitted = λ deeds stood held. may-remove (intended walker.change)
            walker.change.inputs.keeper (tables_left walker) stood held.carries deeds
            (none-installs walker stood held none);
      })

  module _ (next : NewTable) (is_next : next_table walker ≡ Some next) where
    -- the append of the next piece of its new bytes
    pub next-piece : {E : Type 0} → 0 < install_pieces walker → (named : Result FolderCall E) →
        IfOk named (λ call. call_of call ≡ installs_more walker next) → IfOk named IsLaterCall →
        IfOk named (IsNextCall (Installs walker) (installing_call walker))
    next-piece some (Err fault) is later = tt
    next-piece some (Ok call) is later =
        subst (λ (one : Call). IsNextCall (Installs walker) one call)
        (sym (adds-on walker next is_next some)) (record {
          names = is;
          later = λ has. later;
          permitted = λ deeds stood held. may-append (intended walker.change)
              walker.change.inputs.keeper (tables_left walker) stood held.carries next
              (first-left walker next is_next) walker.staged
              (held.staged (begun-of walker next is_next some)) deeds;
        })

    module _ (whole : install_pieces walker ≡ 0) where
      -- the move of its staged new bytes
      pub next-table : has_staged walker ≡ true → (call : FolderCall) →
          call_of call ≡ installs next → IsLaterCall call →
          IsNextCall (Installs walker) (installing_call walker) call
      next-table staged call is later =
          subst (λ (one : Call). IsNextCall (Installs walker) one call)
          (sym (installs-some walker next is_next whole ∙ install-staged walker next staged))
          (record {
            names = is;
            later = λ has. later;
            permitted = λ deeds stood held. may-move (intended walker.change)
                walker.change.inputs.keeper (tables_left walker) stood held.carries next
                (first-left walker next is_next) deeds walker.staged (staged-some walker staged)
                (sym (pieces-are walker next is_next) ∙ whole) (held.staged staged);
          })

      -- the write of the first piece of its new bytes
      pub next-new : {E : Type 0} → has_staged walker ≡ false → (named : Result FolderCall E) →
          IfOk named (λ call. call_of call ≡ stages next) → IfOk named IsLaterCall →
          IfOk named (IsNextCall (Installs walker) (installing_call walker))
      next-new unstaged (Err fault) is later = tt
      next-new unstaged (Ok call) is later =
          subst (λ (one : Call). IsNextCall (Installs walker) one call)
          (sym (installs-some walker next is_next whole ∙ install-unstaged walker next unstaged))
          (record {
            names = is;
            later = λ has. later;
            permitted = λ deeds stood held. may-stage (intended walker.change)
                walker.change.inputs.keeper (tables_left walker) stood held.carries next
                (first-left walker next is_next) deeds;
          })
