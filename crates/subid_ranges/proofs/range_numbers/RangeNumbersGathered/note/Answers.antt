use Rattle.std.proofs.Common.{◌≡◌, ◌≤◌, ◌∙◌, ℕ, Bool, false, sym, ap, subst, arith}
use Rattle.std.specs.Prelude.{MatchOption, cond, is_some}
use Rattle.std.proofs.lemmas.Result.{on_ok_weaker}
use Rattle.account_model.specs.Records.{last_id}
use Rattle.acct_lines.specs.Shown.{subid_shown}
use Rattle.subid_ranges.specs.Taken.{AreFree, AreMet, TakesThoseOf}
use Rattle.subid_ranges.specs.declared.range_numbers.RangeNumbers.{RangeNumbers}
use Rattle.subid_ranges.specs.declared.taken.Taken.{Taken}
use Rattle.subid_ranges.proofs.RangeNumbersLemmas.{numbers-more}
use Rattle.subid_ranges.proofs.range_numbers.RangeNumbersGathered.note.Goals.{else-is_some, then-is_some}
use Rattle.subid_ranges.proofs.range_numbers.RangeNumbersGathered.note.Goals as goal

pub returns : goal.returns
returns c =
    let old = c.args.self.now in
    let known = c.if-is_some.self in
    let found = c.last_met.result in
    let range = subid_shown c.args.range.now in
    let same : known.taken ≡ old.taken = elim c.if-is_some.branch [
      | then-is_some w ↦ ap (λ (numbers : RangeNumbers). numbers.taken) w.self-is
      | else-is_some w ↦ ap (λ (numbers : RangeNumbers). numbers.taken) w.self-is
    ] in
    let apart : known.are_apart ≡ cond (is_some found) false old.are_apart =
    elim c.if-is_some.branch [
      | then-is_some w ↦
          ap (λ (numbers : RangeNumbers). numbers.are_apart) w.self-is
          ∙ sym (ap (λ (is : Bool). cond is false old.are_apart)
          (sym c.is_some.ensures ∙ w.if-is_some.true))
      | else-is_some w ↦
          ap (λ (numbers : RangeNumbers). numbers.are_apart) w.self-is
          ∙ sym (ap (λ (is : Bool). cond is false old.are_apart)
          (sym c.is_some.ensures ∙ w.if-is_some.false))
    ] in
    let met = subst
    (λ (last : ℕ).
    MatchOption found (AreFree old.taken range.first last) (AreMet old.taken range.first last))
    c.end_of.ensures c.last_met.ensures in
    let ordered : range.first ≤ last_id range = omega (arith, c.requires.some) in
    on_ok_weaker c.note.result (λ goes_on ranges are.
    numbers-more ranges range old
    (record { taken = c.note.new.self; are_apart = known.are_apart }) are
    (goes_on ranges (subst (λ (taken : Taken). TakesThoseOf ranges taken) (sym same) are.taken))
    found ordered met apart)
    c.note.ensures
