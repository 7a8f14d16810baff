use Rattle.std.proofs.Common.{sym}
use Rattle.intent_file.proofs.TakesLemmas.{table-no_name, table-not_behind, table-no_length, table-no_bytes, table-no_newline, table-stands}
use Rattle.intent_file.proofs.cursor.Cursor.next_table.Goals as goal

pub returns-in_err-table : goal.returns-in_err-table
returns-in_err-table c =
    rw c.from_residual.ensures
    (table-no_name c.args.before.now c.args.self.now c.in_err-table.ensures)

pub returns-then-not-comes_behind : goal.returns-then-not-comes_behind
returns-then-not-comes_behind c =
    table-not_behind c.args.before.now c.args.self.now c.in_ok-table.table c.table.new.self
    c.in_ok-table.ensures (sym c.if-not-comes_behind.ensures)

pub returns-in_err-length : goal.returns-in_err-length
returns-in_err-length c =
    rw c.from_residual-in_err-length.ensures
    (table-no_length c.args.before.now c.args.self.now c.in_ok-table.table c.table.new.self
    c.in_ok-table.ensures c.in_err-length.ensures)

pub returns-in_err-bytes : goal.returns-in_err-bytes
returns-in_err-bytes c =
    rw c.from_residual-in_err-bytes.ensures
    (table-no_bytes c.args.before.now c.args.self.now c.in_ok-table.table c.table.new.self
    c.in_ok-table.ensures c.in_ok-length.length c.number.new.self c.in_ok-length.ensures
    c.in_err-bytes.ensures)

pub returns-in_err-literal : goal.returns-in_err-literal
returns-in_err-literal c =
    rw c.from_residual-in_err-literal.ensures
    (table-no_newline c.args.before.now c.args.self.now c.in_ok-table.table c.table.new.self
    c.in_ok-table.ensures c.in_ok-length.length c.number.new.self c.in_ok-length.ensures
    c.in_ok-bytes.bytes.now c.bytes.new.self c.in_ok-bytes.ensures c.in_err-literal.ensures)

pub returns : goal.returns
returns c =
    table-stands c.args.before.now c.args.self.now c.in_ok-table.table c.table.new.self
    c.in_ok-table.ensures c.in_ok-length.length c.number.new.self c.in_ok-length.ensures
    c.in_ok-bytes.bytes.now c.bytes.new.self c.in_ok-bytes.ensures
    c.literal.new.self c.requires (sym c.if-not-comes_behind.ensures) c.in_ok-literal.ensures
