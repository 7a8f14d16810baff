use Rattle.std.proofs.Common.{◌++◌, ◌∙◌, [], Some, sym, ap, ap₂, List, drop, length, get_or, arith, append-nil}
use Rattle.std.proofs.lemmas.Result.{IfOk-weaker}
use Rattle.acct_text.specs.declared.Tab.{Tab}
use Rattle.acct_text.specs.declared.Tab.TheVariants.{Passwd}
use Rattle.acct_text.specs.Bytes.{Bytes}
use Rattle.acct_text.specs.Files.{table_of}
use Rattle.acct_text.specs.ChangedTables.{changed_among, changed_tables, with_new_table}
use Rattle.intent_file.specs.Intent.{NewTable, intent_listing, is_allowed}
use Rattle.intent_file.proofs.ChangedTablesLemmas.{changed-step, changed-end, changed-allowed}
use Rattle.intent_file.proofs.intent.Intent.new.Goals as goal
use Rattle.intent_file.proofs.intent.Intent.new.Goals.{in-Some+in_ok-bytes+in_ok-push, in_default}

pub tables-init : goal.tables-init
tables-init c =
    ap₂ (λ (done : List NewTable) (all : List Tab). done ++ changed_among (drop 0 all)
    (table_of c.args.old.now) (table_of c.args.new.now))
    c.new-tables.ensures.items c.all-table-items.ensures

pub tables-preserved : goal.tables-preserved
tables-preserved c =
    let old = table_of c.args.old.now in
    let new = table_of c.args.new.now in
    let size = ap length c.all-table-items.ensures in
    let step = changed-step c.all-table-items.result old new c.tables.table-index Passwd
    c.tables.tables.items c.match-changed_bytes.tables.items (changed_tables old new)
    (omega arith) c.tables.invariant in
    let table = get_or c.all-table-items.result c.tables.table-index Passwd in
    elim c.match-changed_bytes.branch [
      | in-Some+in_ok-bytes+in_ok-push w ↦
          let bytes_is = ap (λ (b : Bytes). Some b) (w.in_ok-bytes.ensures ∙ w.as_slice.ensures)
          ∙ w.in-Some.ensures in
          step (ap (λ v. v.items) w.tables-is ∙ (w.in_ok-push.ensures.items
          ∙ ap (λ o. c.tables.tables.items ++ with_new_table table o []) bytes_is))
      | in_default w ↦
          step (ap (λ v. v.items) w.tables-is ∙ (sym (append-nil c.tables.tables.items)
          ∙ ap (λ o. c.tables.tables.items ++ with_new_table table o []) w.in_default.ensures))
    ]

pub of-requires-2 : goal.of-requires-2
of-requires-2 c =
    let old = table_of c.args.old.now in
    let new = table_of c.args.new.now in
    let size = ap length c.all-table-items.ensures in
    let all = changed-end c.all-table-items.result old new c.tables.table-index
    c.tables.tables.items (changed_tables old new) (omega arith) c.tables.invariant in
    ap (λ (tables : List NewTable). is_allowed (intent_listing c.args.number tables)) all
    ∙ changed-allowed c.args.number old new c.requires.number c.requires.change

pub returns-clause-value : goal.returns-clause-value
returns-clause-value c =
    let old = table_of c.args.old.now in
    let new = table_of c.args.new.now in
    let size = ap length c.all-table-items.ensures in
    let all = changed-end c.all-table-items.result old new c.tables.table-index
    c.tables.tables.items (changed_tables old new) (omega arith) c.tables.invariant in
    IfOk-weaker c.of-2.result _ _ (λ intent is. is
    ∙ ap (λ (tables : List NewTable). intent_listing c.args.number tables) all)
    c.of-2.ensures.value
