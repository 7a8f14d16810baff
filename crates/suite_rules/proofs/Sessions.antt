-- Which events are a session's, and what they make of its life: what holds of the event's session
-- and of each other holds of all (`each`), a session that runs after an event ran before it or has
-- just begun (`ran-before`, `active-before`), and one without a begin has called nothing (`fresh`).
use Rattle.std.proofs.Common.{◌≡◌, ◌≢◌, refl, sym, ap, subst, ◌∙◌, ◌⊎◌, inl, inr, Bool, true, false, [], ◌∷◌, true≢false, bytes_eq}
use Rattle.std.proofs.lemmas.Slice.Eq.{bytes_eq-Decides}
use Rattle.acct_outside.specs.Tokens.{Token}
use Rattle.acct_outside.specs.Folder.{Folder}
use Rattle.acct_outside.specs.Calls.{Call, Answer, CallResult, lists, creates, renames, answers, done, failed, died}
use Rattle.acct_outside.specs.History.{Event, History}
use Rattle.acct_outside.specs.Life.{Life, unbegun, running, faulted, ended, life, life_step, life_after_call, runs_in}
use Rattle.suite_rules.specs.Deeds.{SuiteDeeds}
use Rattle.suite_rules.specs.OwnLock.{OwnLock, lock_uncalled, own_step}
use Rattle.suite_rules.specs.Standing.{Standing, standing, standing_step}
use Rattle.suite_rules.specs.Lawful.{KeepsRulesOrNone, Lawful, goes_on}

-- the same by the test, so the same
pub token-is : (token other : Token) → bytes_eq token other ≡ true → token ≡ other
token-is token other is = (bytes_eq-Decides token other).0 is

-- a token is equal to itself by the test
pub token-same : (token : Token) → bytes_eq token token ≡ true
token-same token = (bytes_eq-Decides token token).1 refl

-- different tokens are so by the test
pub token-other : (token other : Token) → token ≢ other → bytes_eq token other ≡ false
token-other token other differs = cases (bytes_eq token other) refl
  where
    cases : (same : Bool) → bytes_eq token other ≡ same → same ≡ false
    cases true is = absurd (differs (token-is token other is))
    cases false is = refl

-- two tokens are one or not
pub token-cases : (token other : Token) → (token ≡ other) ⊎ (token ≢ other)
token-cases token other = cases (bytes_eq token other) refl
  where
    cases : (same : Bool) → bytes_eq token other ≡ same → (token ≡ other) ⊎ (token ≢ other)
    cases true is = inl (token-is token other is)
    cases false is = inr (λ same. true≢false (sym ((bytes_eq-Decides token other).1 same) ∙ is))

-- what holds of one session and of each other holds of all
pub each : (P : Token → Type 0) (token : Token) → P token →
    ((other : Token) → other ≢ token → P other) → (other : Token) → P other
each P token here there other = cases (token-cases other token)
  where
    cases : (other ≡ token) ⊎ (other ≢ token) → P other
    cases (inl same) = subst P (sym same) here
    cases (inr differs) = there other differs

-- What an event makes of lives and standings.
module _ (event : Event) (history : History) where
  -- the life of its session
  pub own-life : life event.token (event ∷ history)
      ≡ life_step event.call event.result (life event.token history)
  own-life = rw (token-same event.token) refl

  -- the standing of its session
  pub own-standing : standing event.token (event ∷ history)
      ≡ standing_step event.call event.result (standing event.token history)
  own-standing = rw (token-same event.token) refl

  -- the life of another
  pub other-life : (other : Token) → other ≢ event.token →
      life other (event ∷ history) ≡ life other history
  other-life other differs = rw (token-other event.token other (λ same. differs (sym same))) refl

  -- the standing of another
  pub other-standing : (other : Token) → other ≢ event.token →
      standing other (event ∷ history) ≡ standing other history
  other-standing other differs =
      rw (token-other event.token other (λ same. differs (sym same))) refl

-- a session that runs after its event ran before, or had no begin
pub ran-before : (call : Call) (result : CallResult (Answer call)) (before : Life) →
    runs_in (life_step call result before) ≡ true → (runs_in before ≡ true) ⊎ (before ≡ unbegun)
ran-before call result unbegun runs = inr refl
ran-before call result running runs = inl refl
ran-before call result faulted runs = inl refl
ran-before call result ended runs = absurd (true≢false (sym runs))

-- the call was done
pub data IsDone {A : Type 0} : CallResult A → Type 0 where
  is_done : (answer : A) → IsDone (done answer)

-- a session with a failed call doesn't run on without one
faulted-stays : (call : Call) (result : CallResult (Answer call)) →
    life_after_call call result faulted ≡ running → ⊥
faulted-stays (answers status) result is = absurd (cc)
faulted-stays _ (done answer) is = absurd (cc)
faulted-stays _ (failed effect) is = absurd (cc)
faulted-stays _ (died effect) is = absurd (cc)

-- a call after which a session runs without a failed call was done
runs-done : (call : Call) (result : CallResult (Answer call)) →
    life_after_call call result running ≡ running → IsDone result
runs-done (answers status) result is = absurd (cc)
runs-done _ (done answer) is = is_done answer
runs-done _ (failed effect) is = absurd (cc)
runs-done _ (died effect) is = absurd (cc)

-- a session that runs without a failed call after its event did so before, and the call was done;
-- or it had no begin
pub active-before : (call : Call) (result : CallResult (Answer call)) (before : Life) →
    life_step call result before ≡ running →
    ((before ≡ running) × IsDone result) ⊎ (before ≡ unbegun)
active-before call result unbegun is = inr refl
active-before call result running is = inl (refl, runs-done call result is)
active-before call result faulted is = absurd (faulted-stays call result is)
active-before call result ended is = absurd (cc)

-- a session that had a begin has one
begun-stays : (call : Call) (result : CallResult (Answer call)) (before : Life) →
    life_step call result before ≡ unbegun → (before ≡ unbegun)
begun-stays call result unbegun is = refl
begun-stays (answers status) result running is = absurd (cc)
begun-stays _ (done answer) running is = absurd (cc)
begun-stays (answers status) result faulted is = absurd (cc)
begun-stays _ (done answer) faulted is = absurd (cc)
begun-stays call result before is = absurd (cc)

-- no call but a begin is lawful without one
pub begin-first : (deeds : SuiteDeeds) (history : History) (token : Token) (call : Call)
    (result : CallResult (Answer call)) → KeepsRulesOrNone deeds history token call result →
    life token history ≡ unbegun → (own : OwnLock) → own_step call result own ≡ own
begin-first deeds history token lists result keeps is own = absurd (rw is at keeps.life_rule)
begin-first deeds history token (creates number) result keeps is own =
    absurd (rw is at keeps.life_rule)
begin-first deeds history token (renames from to) result keeps is own =
    absurd (rw is at keeps.life_rule)
begin-first deeds history token call result keeps is own = refl

-- a session without a begin hasn't called create
pub fresh : (deeds : SuiteDeeds) (first : Folder) (history : History) →
    Lawful deeds first history → (token : Token) → life token history ≡ unbegun →
    (standing token history).own ≡ lock_uncalled
fresh deeds first [] lawful token is = refl
fresh deeds first (event ∷ history) (goes_on _ _ lawful next) token is =
    each (λ token. (life token history ≡ unbegun → (standing token history).own ≡ lock_uncalled) →
    life token (event ∷ history) ≡ unbegun →
    (standing token (event ∷ history)).own ≡ lock_uncalled) event.token
    (λ before now. here before (begun-stays event.call event.result (life event.token history)
    (sym (own-life event history) ∙ now)))
    (λ other differs before now.
    ap (λ (standing : Standing). standing.own) (other-standing event history other differs)
    ∙ before (sym (other-life event history other differs) ∙ now))
    token (fresh deeds first history lawful token) is
  where
    here : (life event.token history ≡ unbegun →
        (standing event.token history).own ≡ lock_uncalled) →
        life event.token history ≡ unbegun →
        (standing event.token (event ∷ history)).own ≡ lock_uncalled
    here before was =
        ap (λ (standing : Standing). standing.own) (own-standing event history)
        ∙ (begin-first deeds history event.token event.call event.result next.keeps was
        (standing event.token history).own
        ∙ before was)
