use Rattle.std.proofs.Common.{◌∙◌, ap, sym}
use Rattle.account_model.specs.Words.{tool_for, request_by_limit, request_within_limits, request_of_tool}
use Rattle.option_words.proofs.ReadingLemmas.{request-answered}
use Rattle.option_words.proofs.words.read_as.Goals as goal

pub returns-clause-request : goal.returns-clause-request
returns-clause-request c =
    let words = c.args.words.now in
    let arguments = c.in-Some-split_first.arguments.now in
    let named =
    ap (tool_for c.args.whose) (sym c.as_slice.ensures) ∙ sym c.tool_for.ensures
    ∙ (c.in_ok-tool.ensures {u = tt}).ok_part in
    let read =
    ap (λ limit. request_by_limit c.args.whose limit words) (sym c.past_limit.ensures ∙ c.in_default.is)
    ∙ ap (request_within_limits c.args.whose) (c.in-Some-split_first.ensures {u = tt}).cases.0
    ∙ ap (λ tool. request_of_tool c.args.whose tool arguments) named
    ∙ c.in_ok-read_arguments.ensures {u = tt} in
    request-answered c.args.whose words c.into_parsed.result read c.into_parsed.ensures
