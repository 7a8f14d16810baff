use Rattle.std.proofs.Common.{sym, ap, subst, ◌∙◌, Option}
use Rattle.acct_text.specs.declared.Tab.{Tab}
use Rattle.acct_text.specs.declared.files.Files.{Files}
use Rattle.commit_steps.specs.States.{Reader, AreSound, table_behind}
use Rattle.commit_steps.proofs.TablesLemmas.{sound-on}
use Rattle.commit_steps.proofs.reading.Loader.after_table.Goals as goal

pub invariant_of-self : goal.invariant_of-self
invariant_of-self c =
    let table = c.args.table in
    let next = ap (λ (reader : Reader). reader.next) c.self.view_is ∙ c.requires.next in
    let sound = subst (λ (next : Option Tab). AreSound next c.self.inside.files)
    next c.self.invariant in
    let stands = sym c.is_missing.ensures ∙ c.if-is_missing.false in
    subst (λ (next : Option Tab). AreSound next c.put.new.self)
    (sym c.table_behind-self-inside.ensures)
    (subst (λ (files : Files). AreSound (table_behind table) files) (sym c.put.ensures)
    (sound-on table c.args.content c.self.inside.files sound stands c.requires.limit))
