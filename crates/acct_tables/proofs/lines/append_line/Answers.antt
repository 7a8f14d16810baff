use Rattle.std.proofs.Common.{◌≡◌, ◌∙◌, ◌++◌, [], ◌∷◌, ap}
use Rattle.std.proofs.lemmas.Result.{on_ok_weaker}
use Rattle.acct_text.specs.Bytes.{newline}
use Rattle.acct_tables.specs.SeenLines.{missing_end}
use Rattle.acct_tables.proofs.LinesAhead.{appended}
use Rattle.acct_tables.proofs.lines.append_line.Goals as goal

pub returns-clause-appended : goal.returns-clause-appended
returns-clause-appended c =
    let text = c.args.text.now in
    let line = c.args.line.now in
    let more = c.push-3.new.self in
    let is : more ≡ (missing_end text ++ line) ++ newline ∷ [] =
    c.in_ok-push-3.ensures.ok
    ∙ ap (λ bytes. bytes ++ newline ∷ [])
    (c.in_ok-push-2.ensures.ok
    ∙ ap (λ bytes. bytes ++ line)
    (c.in_ok-push.ensures.ok
    ∙ ap (λ front. front ++ c.missing_end.result.now) c.new-more.ensures
    ∙ c.missing_end.ensures ∙ ap missing_end c.as_slice.ensures)) in
    on_ok_weaker c.push-4.result
    (λ pushed. pushed
    ∙ ap (λ bytes. text ++ bytes) c.as_slice-2.ensures
    ∙ appended text line more is)
    c.push-4.ensures.ok
