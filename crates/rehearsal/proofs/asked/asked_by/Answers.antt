use Rattle.std.proofs.Common.{◌≡◌, List, arith, refl, sym, subst, Option, None}
use Rattle.std.specs.Prelude.{MatchOption}
use Rattle.account_model.specs.Options.{Word}
use Rattle.rehearsal.specs.declared.asked.Rehearsal.{Rehearsal}
use Rattle.rehearsal.specs.Asked.{AsksFor}
use Rattle.rehearsal.specs.Endings.{AsksForNone}
use Rattle.rehearsal.proofs.AskedLemmas.{are-three, asks-for, no-count, no-seed}
use Rattle.rehearsal.proofs.asked.asked_by.Goals as goal

-- what is said of words that ask for none
at-none : (words : List Word) (found : Option Rehearsal) → found ≡ None → AsksForNone words →
    MatchOption found (AsksForNone words) (AsksFor words)
at-none words found is none =
    subst (λ (one : Option Rehearsal). MatchOption one (AsksForNone words) (AsksFor words)) (sym is)
    none

pub returns-in_err-seed : goal.returns-in_err-seed
returns-in_err-seed c =
    let words = c.args.words.now in
    let three = are-three words c.name-item.result c.seed-item.result c.count-item.result
    (omega arith) c.name-item.is c.seed-item.is c.count-item.is in
    at-none words _ c.from_residual.ensures
    (no-seed words _ _ _ three (sym c.in_err-seed.ensures))

pub returns-in_err-count : goal.returns-in_err-count
returns-in_err-count c =
    let words = c.args.words.now in
    let three = are-three words c.name-item.result c.seed-item.result c.count-item.result
    (omega arith) c.name-item.is c.seed-item.is c.count-item.is in
    at-none words _ c.from_residual-in_err-count.ensures
    (no-count words _ _ _ three (sym c.in_err-count.ensures))

pub returns : goal.returns
returns c =
    let words = c.args.words.now in
    let three = are-three words c.name-item.result c.seed-item.result c.count-item.result
    (omega arith) c.name-item.is c.seed-item.is c.count-item.is in
    asks-for words _ _ _ three (record { seed = c.in_ok-seed.seed; count = c.in_ok-count.count })
    (c.if-not-names_rehearsal.ensures.0 refl) (sym c.in_ok-seed.ensures)
    (sym c.in_ok-count.ensures) (omega arith)
