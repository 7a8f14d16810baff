use Rattle.std.proofs.Common.{◌++◌, ◌∙◌, ℕ, sym, ap, ap₂, List, length, get_or, take, arith, append-nil, append_assoc}
use Rattle.acct_text.specs.Bytes.{Bytes}
use Rattle.intent_file.specs.Intent.{NewTable, header_of, is_allowed, is_in_order, is_within_limit, table_part, table_parts}
use Rattle.intent_file.specs.declared.Version.{Version}
use Rattle.intent_file.proofs.Reading.{allowed_parts}
use Rattle.intent_file.proofs.IntentLemmas.{table_parts-step, intent_text-front}
use Rattle.intent_file.proofs.intent.Intent.print.Goals as goal

pub header_of-requires-clause-in_order : goal.header_of-requires-clause-in_order
header_of-requires-clause-in_order c =
    let allowed = ap is_allowed (sym c.self.view_is) ∙ c.self.invariant.0 in
    let items = c.deref.ensures.value ∙ ap (λ i. i.tables) c.self.view_is in
    ap is_in_order items ∙ (allowed_parts c.args.self.now allowed).in_order

pub header_of-requires-clause-within_limit : goal.header_of-requires-clause-within_limit
header_of-requires-clause-within_limit c =
    let allowed = ap is_allowed (sym c.self.view_is) ∙ c.self.invariant.0 in
    let items = c.deref.ensures.value ∙ ap (λ i. i.tables) c.self.view_is in
    ap is_within_limit items ∙ (allowed_parts c.args.self.now allowed).within_limit

pub tables-init : goal.tables-init
tables-init c =
    let intent = c.args.self.now in
    let items = c.deref.ensures.value ∙ ap (λ i. i.tables) c.self.view_is in
    c.in_ok-text.ensures
    ∙ (ap₂ (λ (v : Version) (n : ℕ). header_of v n c.deref.result.now)
    (ap (λ i. i.version) c.self.view_is) (ap (λ i. i.number) c.self.view_is)
    ∙ (ap (λ (tables : List NewTable). header_of intent.version intent.number tables) items
    ∙ sym (append-nil (header_of intent.version intent.number intent.tables))))

pub tables-preserved : goal.tables-preserved
tables-preserved c =
    let tables = c.args.self.now.tables in
    let place = c.tables.table-index in
    let head = header_of c.args.self.now.version c.args.self.now.number tables in
    let items = c.deref-table-items.ensures.value ∙ ap (λ i. i.tables) c.self.view_is in
    let size = ap length items in
    let item =
    c.table-item.is ∙ ap (λ (ts : List NewTable). get_or ts place c.table-item.result) items in
    c.in_ok-push_table.ensures
    ∙ (ap₂ (λ (text part : Bytes). text ++ part) c.tables.invariant (ap table_part item)
    ∙ (append_assoc head (table_parts (take place tables)) _
    ∙ ap (λ (b : Bytes). head ++ b)
    (sym (table_parts-step tables place c.table-item.result (omega arith)))))

pub returns : goal.returns
returns c =
    let items = c.deref-table-items.ensures.value ∙ ap (λ i. i.tables) c.self.view_is in
    let size = ap length items in
    let text_is = intent_text-front c.args.self.now c.tables.text c.push.new.self
    c.tables.table-index (omega arith) c.tables.invariant c.in_ok-push.ensures.ok in
    let allowed = ap is_allowed (sym c.self.view_is) ∙ c.self.invariant.0 in
    record { text = text_is; reads = record { allowed = allowed; text = text_is } }
