-- Claims: where a step is left there is a table at the place (`table-there`); and each step leaves fewer
-- (`fewer-steps`, `changed-most`). Way: a table is staged first and then moved, so by whether it is staged.
use Rattle.std.proofs.Common.{◌≡◌, inl, inr, [], sym, ap, subst, ◌≤◌, ◌<◌, ◌+◌, ◌-◌, ◌*◌, ◌∷◌, ℕ, Bool, true, false, List, length, get_or, if◌then◌else◌, Option, Some, None, arith, rules}
use Rattle.std.proofs.lemmas.Bool.{cases_Bool}
use Rattle.std.proofs.lemmas.Option.{slice_get-get_or}
use Rattle.acct_text.specs.declared.Tab.{Tab}
use Rattle.acct_text.specs.declared.Tab.TheVariants.{Passwd}
use Rattle.acct_text.specs.Bytes.{Bytes}
use Rattle.acct_text.specs.Contents.{Contents, same_content}
use Rattle.intent_file.specs.Intent.{NewTable}
use Rattle.acct_text.specs.ChangedTables.{with_new_table, changed_among}
use Rattle.commit_steps.specs.States.{Walker, changed, has_staged, next_table, step_on, steps_left}
use Rattle.commit_steps.proofs.InstallLemmas.{step-staged, step-unstaged}
use Rattle.commit_steps.proofs.TablesLemmas.{place-within}

-- where a step is left, there is a table at the place
pub table-there : (walker : Walker) → 0 < steps_left walker →
    (next : NewTable) × (next_table walker ≡ Some next)
table-there walker some =
    let none : NewTable = record { table = Passwd; bytes = [] } in (
      get_or (changed walker.change) walker.place none,
      slice_get-get_or (changed walker.change) walker.place none
          (place-within (length (changed walker.change)) walker.place (has_staged walker) some),
    )

-- at most six tables differ
one-more : (most : ℕ) (news : List NewTable) → length news ≤ most →
    (same : Bool) (table : Tab) (content : Option Bytes) →
    length (if same then news else with_new_table table content news) ≤ most + 1
one-more most news few true table content = omega (arith, few)
one-more most news few false table None = omega (arith, few)
one-more most news few false table (Some bytes) = omega (arith, few)

-- of some tables at most as many are changed
pub changed-most : (tables : List Tab) (old new : Contents) →
    length (changed_among tables old new) ≤ length tables
changed-most [] old new = search (arith, rules)
changed-most (table ∷ tables) old new =
    let more = one-more (length tables) (changed_among tables old new)
    (changed-most tables old new) (same_content (old table) (new table)) table (new table) in
    omega (arith, more)

-- a step on leaves fewer
pub fewer-steps : (walker : Walker) → 0 < steps_left walker →
    steps_left (step_on walker) < steps_left walker
fewer-steps walker some = elim (cases_Bool (has_staged walker)) [
  | inl staged ↦
      subst (λ (one : Walker). steps_left one < steps_left walker) (sym (step-staged walker staged))
      (less true staged some)
  | inr unstaged ↦
      subst (λ (one : Walker). steps_left one < steps_left walker)
      (sym (step-unstaged walker unstaged)) (less false unstaged some)
]
  where
    -- the steps once the table at the place is moved, or its first piece is staged
    then-left : Bool → ℕ
    then-left true = 2 * (length (changed walker.change) - (walker.place + 1)) - 0
    then-left false = 2 * (length (changed walker.change) - walker.place) - 1

    less : (staged : Bool) → has_staged walker ≡ staged → 0 < steps_left walker →
        then-left staged < steps_left walker
    less true is left = subst (λ (one : Bool).
        then-left true < 2 * (length (changed walker.change) - walker.place)
        - (if one then 1 else 0))
        (sym is) (omega (
          arith,
          subst (λ (one : Bool).
              0 < 2 * (length (changed walker.change) - walker.place) - (if one then 1 else 0))
              is left,
        ))
    less false is left = subst (λ (one : Bool).
        then-left false < 2 * (length (changed walker.change) - walker.place)
        - (if one then 1 else 0))
        (sym is) (omega (
          arith,
          subst (λ (one : Bool).
              0 < 2 * (length (changed walker.change) - walker.place) - (if one then 1 else 0))
              is left,
        ))

-- a step on keeps the change
pub step-change : (walker : Walker) → (step_on walker).change ≡ walker.change
step-change walker = elim (cases_Bool (has_staged walker)) [
  | inl staged ↦ ap (λ (one : Walker). one.change) (step-staged walker staged)
  | inr unstaged ↦ ap (λ (one : Walker). one.change) (step-unstaged walker unstaged)
]
