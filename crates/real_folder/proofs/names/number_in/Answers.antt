use Rattle.std.proofs.Common.{◌≡◌, ◌≢◌, None, get_or, refl, sym, ◌∙◌, ap}
use Rattle.std.specs.Result.{result_ok}
use Rattle.acct_text.specs.Numbers.{number_of}
use Rattle.acct_outside.specs.Names.{greatest_lock}
use Rattle.real_folder.proofs.LockNumber.{none-printed, not-empty, not-zero, read-printed, read-bounds}
use Rattle.real_folder.proofs.names.number_in.Goals as goal

pub returns-in_err-first-clause-printed : goal.returns-in_err-first-clause-printed
returns-in_err-first-clause-printed c =
    none-printed c.args.digits.now c.from_residual.result c.from_residual.ensures
    (not-empty c.args.digits.now c.in_err-first.ensures.item.3)

pub returns-then-branch-eq48-clause-printed : goal.returns-then-branch-eq48-clause-printed
returns-then-branch-eq48-clause-printed c =
    none-printed c.args.digits.now None refl
    (not-zero c.args.digits.now (sym c.if-branch-eq48.true ∙ c.in_ok-first.ensures.item.3.1 0))

-- what was read
found :
    (c : goal.After-ok)
    → c.ok.result ≡ result_ok (number_of greatest_lock c.args.digits.now)
found c = c.ok.ensures.value ∙ ap result_ok c.read_decimal.ensures

-- the first digit isn't 0
no_zero : (c : goal.After-ok) → get_or c.args.digits.now 0 0 ≢ 48
no_zero c zero = c.if-branch-eq48.false (c.in_ok-first.ensures.item.3.1 0 ∙ zero)

pub returns-clause-printed : goal.returns-clause-printed
returns-clause-printed c =
    read-printed c.one_number.ensures c.args.digits.now c.ok.result (found c) (no_zero c)

pub returns-clause-bounds : goal.returns-clause-bounds
returns-clause-bounds c =
    read-bounds c.one_number.ensures c.args.digits.now c.ok.result (found c) (no_zero c)
