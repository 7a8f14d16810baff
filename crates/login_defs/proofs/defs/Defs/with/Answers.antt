use Rattle.std.proofs.Common.{refl, sym, ◌∙◌, ap, arith, Some}
use Rattle.std.specs.Prelude.{slice_set, bytes_eq}
use Rattle.login_defs.proofs.SettingLaws.{flag-adds, number-adds}
use Rattle.login_defs.proofs.SettingFaults.{unknown-fault}
use Rattle.login_defs.proofs.defs.Defs.with.Goals as goal

pub returns-then-eq-clause-set : goal.returns-then-eq-clause-set
returns-then-eq-clause-set c =
    flag-adds c.args.self.now _ c.args.key.now c.args.value.now (sym c.if-eq.ensures) refl
    (c.eq-self.ensures ∙ ap (bytes_eq c.args.value.now) c.as_slice.ensures)

pub returns-in_default-clause-fault : goal.returns-in_default-clause-fault
returns-in_default-clause-fault c =
    sym (unknown-fault c.args.key.now c.args.value.now (sym c.if-eq.ensures)
    (sym c.find_key.ensures ∙ c.in_default.is))

pub returns-clause-set : goal.returns-clause-set
returns-clause-set c =
    number-adds c.args.self.now _ c.args.key.now c.args.value.now c.in-Some.key
    c.in-Some-allowed_value.value
    (sym c.if-eq.ensures) (sym c.in-Some.ensures) (sym c.in-Some-allowed_value.ensures)
    (let within = c.place_of.ensures.within in let place = c.place_of.ensures.place in omega arith)
    (ap (λ place. slice_set c.args.self.now.values place (Some c.in-Some-allowed_value.value))
    c.place_of.ensures.place)
    refl
