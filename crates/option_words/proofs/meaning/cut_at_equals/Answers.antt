use Rattle.std.proofs.Common.{ap, sym, ◌∙◌, Some, None, Bool, List, ℕ, Option}
use Rattle.std.specs.Prelude.{if◌then◌else◌}
use Rattle.acct_text.proofs.CutOnce.{cut-before, cut-behind, cut-has, uncut-before, uncut-has}
use Rattle.account_model.specs.Text.{equals_sign}
use Rattle.account_model.specs.Spelling.{value_part}
use Rattle.option_words.proofs.meaning.cut_at_equals.Goals as goal

-- the value behind the first `=`, where there is one
abbrev value_where : List ℕ → Bool → Option (List ℕ)
value_where text has = if has then Some (value_part text) else None

pub returns-in-Some-clause-name : goal.returns-in-Some-clause-name
returns-in-Some-clause-name c =
    let cut = c.in-Some.cut in
    sym (cut-before equals_sign c.args.text.now cut.before.now cut.behind.now c.in-Some.ensures.cut)

pub returns-in-Some-clause-value : goal.returns-in-Some-clause-value
returns-in-Some-clause-value c =
    let text = c.args.text.now in
    let before = c.in-Some.cut.before.now in
    let behind = c.in-Some.cut.behind.now in
    ap Some (sym (cut-behind equals_sign text before behind c.in-Some.ensures.cut))
    ∙ sym (ap (value_where text) (cut-has equals_sign text before behind c.in-Some.ensures.cut))

pub returns-in-None-clause-name : goal.returns-in-None-clause-name
returns-in-None-clause-name c = sym (uncut-before equals_sign c.args.text.now c.in-None.ensures.cut)

pub returns-in-None-clause-value : goal.returns-in-None-clause-value
returns-in-None-clause-value c =
    let text = c.args.text.now in
    sym (ap (value_where text) (uncut-has equals_sign text c.in-None.ensures.cut))
