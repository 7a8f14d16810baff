use Rattle.std.proofs.Common.{◌≡◌, ◌++◌, ◌∙◌, ◌+◌, ℕ, [], ◌∷◌, refl, sym, ap, subst, List, arith}
use Rattle.intent_file.specs.declared.IntentFault.TheVariants.{Part}
use Rattle.intent_file.specs.Cursor.{TakesValue, TakesTables, TellsLack}
use Rattle.intent_file.specs.Intent.{NewTable, is_in_order, table_part}
use Rattle.intent_file.specs.Parts.{BeginsWith, BeginsWithNone, MayBeListed}
use Rattle.intent_file.proofs.PartsLemmas.{listed-none}
use Rattle.intent_file.proofs.TakesLemmas.{tables-more, tables-lack}
use Rattle.intent_file.proofs.IntentLemmas.{missing-fault}
use Rattle.intent_file.proofs.cursor.Cursor.tables.Goals as goal

pub parts-init : goal.parts-init
parts-init c =
    let old = c.args.self.now in
    let none : TakesTables old 0 [] old = record { counted = refl; listed = listed-none old } in
    subst (λ (tables : List NewTable). TakesTables old 0 tables old)
    (sym c.new-tables.ensures.items) none

pub next_table-requires : goal.next_table-requires
next_table-requires c =
    ap is_in_order c.deref.ensures.value ∙ c.parts.invariant.listed.stands.in_order

pub returns-in_err-next-clause-damaged : goal.returns-in_err-next-clause-damaged
returns-in_err-next-clause-damaged c =
    let behind = c.parts.self in
    let missed = subst
    (λ o. TakesValue (MayBeListed c.deref.result.now) table_part behind o c.next_table.new.self)
    c.in_err-next.ensures.ok_part c.next_table.ensures in
    let none = subst
    (λ (tables : List NewTable). BeginsWithNone (MayBeListed tables) table_part behind)
    c.deref.ensures.value missed in
    missing-fault (TellsLack c.args.self.now c.args.count) c.next_table.result
    (Part (c.parts.place + 1)) c.in_err-next.field-0.0 c.from_residual.result
    c.in_err-next.ensures.value c.in_err-next.ensures.ok_part c.from_residual.ensures.1
    (tables-lack c.args.self.now behind c.parts.place c.args.count c.parts.tables.items
    c.parts.invariant (omega arith) none)

pub parts-preserved : goal.parts-preserved
parts-preserved c =
    let old = c.args.self.now in
    let behind = c.parts.self in
    let new = c.next_table.new.self in
    let next = c.in_ok-next.next in
    let taken = subst (λ o. TakesValue (MayBeListed c.deref.result.now) table_part behind o new)
    c.in_ok-next.ensures.ok_part c.next_table.ensures in
    let begins = subst
    (λ (tables : List NewTable). BeginsWith (MayBeListed tables) table_part behind next new)
    c.deref.ensures.value taken in
    let pushed : c.push.new.self.items ≡ c.parts.tables.items ++ next ∷ [] =
    c.in_ok-push.ensures.items
    ∙ ap (λ (table : NewTable). c.parts.tables.items ++ table ∷ []) c.in_ok-copy.ensures in
    subst (λ (tables : List NewTable). TakesTables old (c.parts.place + 1) tables new) (sym pushed)
    (tables-more old behind new c.parts.place c.parts.tables.items next c.parts.invariant begins)

pub returns-clause-taken : goal.returns-clause-taken
returns-clause-taken c =
    let all : c.parts.place ≡ c.args.count = omega arith in
    subst (λ (n : ℕ). TakesTables c.args.self.now n c.parts.tables.items c.parts.self) all
    c.parts.invariant
