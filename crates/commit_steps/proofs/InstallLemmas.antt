-- Claims: each call of an installation leads from its standing to the next (`installs-after-write`,
-- `installs-after-append`, `installs-after-move`, `cleared-after-removal`). Way: it carries out the intent of the change
-- (recovery, CarryLemmas), whose first table that is left is the one at the place (`first-left`), and
-- whose others are those from the next place on (`rest-left`); no table is left where no step is
-- (`none-installs`).
use Rattle.std.proofs.Common.{◌≡◌, refl, sym, ap, subst, ◌∙◌, ℕ, ◌+◌, ◌-◌, ◌<◌, Bool, true, false, if◌then◌else◌, List, length, slice_get, Option, Some, None, true≢false, drop-cons, arith}
use Rattle.std.specs.Prelude.{IsSomeAnd, option_map, unwrap_or}
use Rattle.std.proofs.lemmas.Bool.Decides.{nat_tests}
use Rattle.std.proofs.lemmas.List.{drop-drop, length-drop}
use Rattle.std.proofs.lemmas.Option.{slice_get_within, get_or_from_slice_get}
use Rattle.acct_outside.specs.declared.Name.TheVariants.{Intent, Staged}
use Rattle.acct_outside.specs.Pieces.{first_pieces, piece_count}
use Rattle.acct_outside.specs.Calls.{removes, done}
use Rattle.intent_file.specs.Intent.{NewTable}
use Rattle.suite_rules.specs.Standing.{Standing, standing_step}
use Rattle.suite_rules.specs.Outcomes.{stages, stages_more, installs, pieces_left}
use Rattle.recovery.specs.Carrying.{Carries}
use Rattle.recovery.proofs.CarryLemmas.{carries-after-append, carries-after-write, first-staged, more-staged, carries-after-move, none-after-removal}
use Rattle.commit_steps.specs.States.{Walker, append_on, changed, has_staged, install_pieces, intended, step_on, steps_left, tables_left}
use Rattle.commit_steps.specs.Stands.{HasCleared, Installs}
use Rattle.commit_steps.specs.Outcomes.{install_call}
use Rattle.commit_steps.proofs.TablesLemmas.{none-left}

-- what holds of the element at a place, where there is one and which
pub at-next : {X : Type 0} (Holds : X → Type 0) (list : List X) (place : ℕ) (next : X) →
    slice_get list place ≡ Some next → IsSomeAnd (slice_get list place) Holds → Holds next
at-next Holds list place next is all =
    subst (λ (found : Option _). IsSomeAnd found Holds) is all

-- then there is one
pub is-within : {X : Type 0} (Holds : X → Type 0) (list : List X) (place : ℕ) →
    IsSomeAnd (slice_get list place) Holds → place < length list
is-within {X} Holds list place holds = cases (slice_get list place) refl holds
  where
    cases : (found : Option X) → slice_get list place ≡ found → IsSomeAnd found Holds →
        place < length list
    cases (Some next) is here = slice_get_within list place next is
    cases None is here = absurd here

-- one step on from bytes that aren't staged
pub step-unstaged : (walker : Walker) → has_staged walker ≡ false →
    step_on walker ≡ record walker { staged = 1 }
step-unstaged walker is = rw is refl

-- one step on from staged bytes
pub step-staged : (walker : Walker) → has_staged walker ≡ true →
    step_on walker ≡ record walker { place = walker.place + 1; staged = 0 }
step-staged walker is = rw is refl

-- the call of an installation that stages
pub install-unstaged : (walker : Walker) (next : NewTable) → has_staged walker ≡ false →
    install_call walker next ≡ stages next
install-unstaged walker next is = rw is refl

-- the call of an installation that moves
pub install-staged : (walker : Walker) (next : NewTable) → has_staged walker ≡ true →
    install_call walker next ≡ installs next
install-staged walker next is = rw is refl

-- a walker that has staged a piece has staged some
pub staged-some : (walker : Walker) → has_staged walker ≡ true → 0 < walker.staged
staged-some walker is = grind (arith, nat_tests, is)

-- The calls with the table at the place.
module _ (walker : Walker) (next : NewTable)
    (is_next : slice_get (changed walker.change) walker.place ≡ Some next) where
  -- it is the first that is left
  pub first-left : slice_get (tables_left walker) 0 ≡ Some next
  first-left =
      let tables = changed walker.change in
      let within = slice_get_within tables walker.place next is_next in
      ap (λ (left : List NewTable). slice_get left 0) (drop-cons tables walker.place next within)
      ∙ ap Some (get_or_from_slice_get tables walker.place next next is_next)

  -- a write of its first piece stages that
  pub installs-after-write : has_staged walker ≡ false → (answer : Unit {0}) (stood : Standing) →
      Installs walker stood →
      Installs (step_on walker) (standing_step (stages next) (done answer) stood)
  installs-after-write unstaged answer stood held =
      let intent = intended walker.change in
      let keeper = walker.change.inputs.keeper in
      subst (λ (other : Walker). Installs other (standing_step (stages next) (done answer) stood))
      (sym (step-unstaged walker unstaged)) (record {
        carries = carries-after-write intent keeper (tables_left walker) stood held.carries next
            first-left answer;
        committed = held.committed;
        staged = λ is. first-staged intent keeper (tables_left walker) stood held.carries next
            first-left answer;
      })

  -- a piece that is left is one of its new bytes
  pub pieces-are : install_pieces walker ≡ pieces_left walker.staged next.bytes
  pieces-are = ap (λ (found : Option NewTable).
      unwrap_or (option_map (λ one. pieces_left walker.staged one.bytes) found) 0) is_next

  -- where a piece is left, one is staged
  pub begun-of : 0 < install_pieces walker → has_staged walker ≡ true
  begun-of some = cases (has_staged walker) refl
      (subst (λ (count : ℕ). 0 < count) pieces-are some)
    where
      cases : (begun : Bool) → has_staged walker ≡ begun →
          0 < (if begun then piece_count next.bytes - walker.staged else 0) →
          has_staged walker ≡ true
      cases true is left = is
      cases false is left = absurd (omega (arith, left))

  -- an append of the next piece stages one more
  pub installs-after-append : has_staged walker ≡ true → (answer : Unit {0}) (stood : Standing) →
      Installs walker stood →
      Installs (append_on walker)
      (standing_step (stages_more walker.staged next) (done answer) stood)
  installs-after-append begun answer stood held =
      let intent = intended walker.change in
      let keeper = walker.change.inputs.keeper in
      record {
        carries = carries-after-append intent keeper (tables_left walker) stood held.carries next
            first-left walker.staged answer;
        committed = held.committed;
        staged = λ is. more-staged intent keeper (tables_left walker) stood held.carries next
            first-left walker.staged (held.staged begun) answer;
      }

  -- a move of the staged bytes puts it in place
  pub installs-after-move : has_staged walker ≡ true → (answer : Unit {0}) (stood : Standing) →
      Installs walker stood →
      Installs (step_on walker) (standing_step (installs next) (done answer) stood)
  installs-after-move staged answer stood held =
      let now : Standing = standing_step (installs next) (done answer) stood in
      let intent = intended walker.change in
      let keeper = walker.change.inputs.keeper in
      subst (λ (other : Walker). Installs other now) (sym (step-staged walker staged)) (record {
        carries = subst (λ (left : List NewTable). Carries intent keeper left now)
            (drop-drop 1 walker.place (changed walker.change))
            (carries-after-move intent keeper (tables_left walker) stood held.carries next
            first-left answer);
        committed = held.committed;
        staged = λ is. absurd (true≢false (sym is));
      })

module _ (walker : Walker) (stood : Standing) (held : Installs walker stood) where
  -- no table is left where no step is
  pub none-installs : steps_left walker ≡ 0 → length (tables_left walker) ≡ 0
  none-installs none = none-left walker none (λ staged.
      let some = is-within
      (λ (next : NewTable). stood.staged (Staged next.table)
      ≡ Some (first_pieces walker.staged next.bytes))
      (tables_left walker) 0 (held.staged staged) in
      omega (arith, some, length-drop walker.place (changed walker.change)))

  -- after the removal of the intent the session knows that none stands
  pub cleared-after-removal : (answer : Unit {0}) →
      HasCleared walker.change.inputs.keeper (standing_step (removes Intent) (done answer) stood)
  cleared-after-removal answer = record {
    keeps = none-after-removal (intended walker.change) walker.change.inputs.keeper
        (tables_left walker) stood held.carries answer;
    committed = held.committed;
  }
