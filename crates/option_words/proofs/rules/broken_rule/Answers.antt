use Rattle.std.proofs.Common.{◌+◌, ◌∙◌, sym, ap, not, position, option_map, Bool}
use Rattle.account_model.specs.Options.{Rule}
use Rattle.account_model.specs.Rows.{ToolRow}
use Rattle.account_model.specs.SeenRows.{rule_of}
use Rattle.account_model.proofs.TableLemmas.{position-map}
use Rattle.option_words.proofs.rules.broken_rule.Goals as goal

pub returns-in_err-place : goal.returns-in_err-place
returns-in_err-place c =
    let is_broken : Rule → Bool = λ rule. not (rule.is_kept c.args.options.now) in
    let joined =
    c.place_of_broken.ensures.place ∙ sym (position-map rule_of is_broken c.row.result.now.rules.now)
    ∙ ap (λ (row : ToolRow). position is_broken row.rules) c.row.ensures in
    c.from_residual.ensures
    ∙ ap (option_map (λ place. place + 1)) (sym (c.in_err-place.was {u = tt}) ∙ joined)

pub returns : goal.returns
returns c =
    let is_broken : Rule → Bool = λ rule. not (rule.is_kept c.args.options.now) in
    let joined =
    c.place_of_broken.ensures.place ∙ sym (position-map rule_of is_broken c.row.result.now.rules.now)
    ∙ ap (λ (row : ToolRow). position is_broken row.rules) c.row.ensures in
    ap (option_map (λ place. place + 1)) (sym (c.in_ok-place.was {u = tt}) ∙ joined)
