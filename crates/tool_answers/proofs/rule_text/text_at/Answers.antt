use Rattle.std.proofs.Common.{◌∙◌, sym, ap, Some}
use Rattle.std.proofs.lemmas.Option.{slice_get-get_or, slice_get-map}
use Rattle.account_model.specs.SeenRows.{rule_of}
use Rattle.tool_answers.proofs.rule_text.text_at.Goals as goal

pub returns-in-Some : goal.returns-in-Some
returns-in-Some c =
    let rules = c.args.rules.now in
    let rule = c.in-Some.rule.now in
    let found = (c.in-Some.ensures {u = tt}).lookup in
    let at =
    slice_get-get_or rules c.args.place rule found.3.0 ∙ ap Some (sym (found.3.1 rule)) in
    rw (slice_get-map rule_of rules c.args.place, at) c.as_bytes.ensures.value
