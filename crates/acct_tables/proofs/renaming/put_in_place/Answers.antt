use Rattle.std.proofs.Common.{◌≡◌, ◌<◌, ℕ, List, [], ◌∷◌, ◌++◌, length, sym, ◌∙◌, ap, arith}
use Rattle.std.specs.Prelude.{bytes_eq}
use Rattle.account_model.specs.Members.{name_once, in_place_of}
use Rattle.acct_tables.specs.Renaming.{renamed_name}
use Rattle.acct_tables.proofs.RenamingLemmas.{next-kept, next-first, next-again}
use Rattle.acct_tables.proofs.renaming.put_in_place.Goals as goal
use Rattle.acct_tables.proofs.renaming.put_in_place.Goals.{then-not-becomes_new+in_ok-push, else-not-becomes_new+then-not-stands+in_ok-push-2, else-not-becomes_new+else-not-stands}

pub loop-name-preserved : goal.loop-name-preserved
loop-name-preserved c =
    let old = c.args.old.now in
    let new = c.args.new.now in
    let name = c.name-item.result in
    let names = c.as_slice-name-items.result.now in
    let place = c.loop-name.name-index in
    let total = name_once new (in_place_of old new names) in
    let inside : place < length names = omega arith in
    let tells : bytes_eq (renamed_name old new name) new ≡ c.becomes_new.result =
    ap (λ (n : List ℕ). bytes_eq (renamed_name old new n) new) (sym c.as_slice.ensures)
    ∙ sym c.becomes_new.ensures in
    elim c.if-not-becomes_new.branch [
      | then-not-becomes_new+in_ok-push w ↦
          next-kept old new name names place inside c.name-item.is c.loop-name.renamed
          c.if-not-becomes_new.renamed total
          c.loop-name.stands c.if-not-becomes_new.stands c.loop-name.invariant
          (tells ∙ w.if-not-becomes_new.true) w.stands-is
          (w.renamed-is ∙ w.in_ok-push.ensures.ok
          ∙ ap (λ (n : List ℕ). c.loop-name.renamed ++ n ∷ [])
          w.as_slice-then-not-becomes_new.ensures)
      | else-not-becomes_new+then-not-stands+in_ok-push-2 w ↦
          next-first old new name names place inside c.name-item.is c.loop-name.renamed
          c.if-not-becomes_new.renamed total
          c.loop-name.stands c.if-not-becomes_new.stands c.loop-name.invariant
          (tells ∙ w.if-not-becomes_new.false)
          w.if-not-stands.true w.stands-is (w.renamed-is ∙ w.in_ok-push-2.ensures.ok)
      | else-not-becomes_new+else-not-stands w ↦
          next-again old new name names place inside c.name-item.is c.loop-name.renamed
          c.if-not-becomes_new.renamed total
          c.loop-name.stands c.if-not-becomes_new.stands c.loop-name.invariant
          (tells ∙ w.if-not-becomes_new.false)
          w.if-not-stands.false w.stands-is w.renamed-is
    ]
