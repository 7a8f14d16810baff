use Rattle.intent_file.proofs.TakesLemmas.{header-no_version, header-no_number, header-no_count, header-stands}
use Rattle.intent_file.proofs.cursor.Cursor.header.Goals as goal

pub returns-in_err-version : goal.returns-in_err-version
returns-in_err-version c =
    rw c.from_residual.ensures (header-no_version c.args.self.now c.in_err-version.ensures)

pub returns-in_err-number : goal.returns-in_err-number
returns-in_err-number c =
    rw c.from_residual-in_err-number.ensures
    (header-no_number c.args.self.now c.in_ok-version.version c.version.new.self
    c.in_ok-version.ensures c.in_err-number.ensures)

pub returns-in_err-count : goal.returns-in_err-count
returns-in_err-count c =
    rw c.from_residual-in_err-count.ensures
    (header-no_count c.args.self.now c.in_ok-version.version c.version.new.self
    c.in_ok-version.ensures c.in_ok-number.number c.number.new.self c.in_ok-number.ensures
    c.in_err-count.ensures)

pub returns : goal.returns
returns c =
    header-stands c.args.self.now c.in_ok-version.version c.version.new.self
    c.in_ok-version.ensures c.in_ok-number.number c.number.new.self c.in_ok-number.ensures
    c.in_ok-count.count c.count.new.self c.in_ok-count.ensures
