use Rattle.std.proofs.Common.{◌≡◌, ◌∙◌, sym, ap, ap₂, subst, ℕ, true, nat_le, List}
use Rattle.std.proofs.lemmas.Bool.{and_from, le-leb}
use Rattle.acct_text.specs.Contents.{IsChange}
use Rattle.acct_text.specs.ChangedTables.{changed_tables}
use Rattle.acct_text.specs.Files.{table_of}
use Rattle.acct_outside.specs.Names.{greatest_lock}
use Rattle.intent_file.specs.Intent.{Intended, NewTable, intent_listing, is_allowed, is_lock_number}
use Rattle.intent_file.proofs.ChangedTablesLemmas.{changed-allowed}
use Rattle.lock_steps.specs.States.{Kept}
use Rattle.commit_steps.specs.States.{change_by, with_tables}
use Rattle.commit_steps.proofs.prepared.Prepared.new.Goals as goal

-- the tables are those that differ, so an intent may list them
pub of-requires : goal.of-requires
of-requires c =
    let files = c.args.loaded.files in
    let number = c.number.result in
    let bounds = c.number.ensures.bounds in
    let is_lock : is_lock_number number ≡ true =
    and_from (nat_le 1 number) (nat_le number greatest_lock) (le-leb 1 number bounds.low)
    (le-leb number greatest_lock bounds.high) in
    ap (λ (tables : List NewTable). is_allowed (intent_listing number tables))
    (c.into_vec.ensures ∙ c.requires.listed)
    ∙ changed-allowed number (table_of files) (table_of (with_tables c.args.new files)) is_lock
    c.requires.allowed

pub invariant_of-result : goal.invariant_of-result
invariant_of-result c =
    let files = c.args.loaded.files in
    let value = c.in_ok-intent.ensures.value in
    let tables = ap (λ (one : Intended). one.tables) value ∙ c.into_vec.ensures in
    let number = c.number.ensures.value
    ∙ ap (λ (keeper : Kept). keeper.number) c.keeper.ensures in (
      subst (λ (tables : List NewTable).
          IsChange (table_of files) (table_of (with_tables tables files)))
          (sym tables) c.requires.allowed,
      value ∙ ap₂ (λ (number : ℕ) (tables : List NewTable). intent_listing number tables) number
          (c.into_vec.ensures ∙ (c.requires.listed ∙ ap (λ (tables : List NewTable).
          changed_tables (table_of files) (table_of (with_tables tables files))) (sym tables))),
      c.in_ok-intent.ensures.reads,
    )

pub returns : goal.returns
returns c =
    ap (λ (tables : List NewTable). change_by tables c.args.loaded)
    (ap (λ (one : Intended). one.tables) c.in_ok-intent.ensures.value ∙ c.into_vec.ensures)
