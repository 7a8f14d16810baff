use Rattle.std.proofs.Common.{◌∙◌, refl, ap₂}
use Rattle.std.specs.Prelude.{◌||◌, nat_le}
use Rattle.std.proofs.lemmas.Bool.{eq-eqb, ne_eqb}
use Rattle.acct_tables.specs.Kept.{is_ended_by}
use Rattle.acct_tables.proofs.patch.put_texts.Goals as goal

pub returns-clause-put : goal.returns-clause-put
returns-clause-put c =
    let place = c.args.place in
    let updates = c.in_ok-insert.ensures.updates.0 in
    record {
      patch = record { texts = c.args.texts; ended = c.is_ended-ended.result };
      here = updates place ∙ rw (eq-eqb place place refl) refl;
      has = refl;
      ended = c.is_ended-ended.ensures
          ∙ ap₂ (λ patch n. is_ended_by patch || nat_le 2 n) c.get.ensures.value
          (c.len.ensures ∙ c.args.texts.ok.0);
      others = λ other apart. updates other ∙ rw (ne_eqb place other apart) refl;
    }
