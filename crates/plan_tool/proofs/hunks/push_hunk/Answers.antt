use Rattle.std.proofs.Common.{◌≡◌, ◌-◌, ◌<◌, ◌∙◌, ◌++◌, ap, ap₂, arith, codes, drop, sym, take}
use Rattle.std.specs.Prelude.{flat_map}
use Rattle.std.proofs.lemmas.List.{drop-map, take-map}
use Rattle.account_model.specs.PlanDiff.{diff_line_text, hunk_head, is_new, is_old, lines_within, point_at, range_text}
use Rattle.plan_tool.specs.SeenDiff.{seen_diff, seen_diff_line}
use Rattle.plan_tool.proofs.HunkLemmas.{counts-ordered, hunk-written, parts-joined}
use Rattle.plan_tool.proofs.hunks.push_hunk.Goals as goal

pub push_range-requires-clause-ordered : goal.push_range-requires-clause-ordered
push_range-requires-clause-ordered c =
    rw (c.requires.start.old, c.requires.end.old)
    (counts-ordered is_old (seen_diff c.args.lines.now) c.args.start.place c.args.end.place
    c.requires.ordered)

pub push_range-requires-2-clause-ordered : goal.push_range-requires-2-clause-ordered
push_range-requires-2-clause-ordered c =
    rw (c.requires.start.new, c.requires.end.new)
    (counts-ordered is_new (seen_diff c.args.lines.now) c.args.start.place c.args.end.place
    c.requires.ordered)

pub returns : goal.returns
returns c =
    let out = c.args.out.now in
    let lines = c.args.lines.now in
    let start = c.args.start in
    let end = c.args.end in
    let below : start.place < end.place =
    omega (arith, c.requires.ordered, c.if-start-end.false) in
    let count = end.place - start.place in
    let texts = flat_map diff_line_text (seen_diff (take count (drop start.place lines))) in
    let from : record { old = start.old; new = start.new }
    ≡ point_at (seen_diff lines) start.place =
    λ i. record { old = c.requires.start.old i; new = c.requires.start.new i } in
    let to : record { old = end.old; new = end.new } ≡ point_at (seen_diff lines) end.place =
    λ i. record { old = c.requires.end.old i; new = c.requires.end.new i } in
    let head_of = hunk_head (point_at (seen_diff lines) start.place)
    (point_at (seen_diff lines) end.place) in
    let seen : seen_diff (take count (drop start.place lines))
    ≡ lines_within (seen_diff lines) start.place end.place =
    sym (take-map seen_diff_line count (drop start.place lines))
    ∙ ap (take count) (sym (drop-map seen_diff_line start.place lines)) in
    let old_range = c.in_ok-push_range.ensures
    ∙ ap (λ text. text ++ range_text start.old end.old) c.in_ok-push.ensures.ok in
    let new_range = c.in_ok-push_range-2.ensures
    ∙ ap (λ text. text ++ range_text start.new end.new)
    (c.in_ok-push-2.ensures.ok ∙ ap (λ text. text ++ codes " +") old_range) in
    let head = c.in_ok-push-3.ensures.ok ∙ ap (λ text. text ++ codes " @@\n") new_range in
    c.in_ok-push_lines.ensures
    ∙ ap (λ text. text ++ texts) head
    ∙ parts-joined out (codes "@@ -") (range_text start.old end.old) (codes " +")
    (range_text start.new end.new) (codes " @@\n") texts
    ∙ ap₂ (λ s e. out ++ (hunk_head s e ++ texts)) from to
    ∙ ap (λ shown. out ++ (head_of ++ flat_map diff_line_text shown)) seen
    ∙ ap (λ hunk. out ++ hunk) (sym (hunk-written (seen_diff lines) start.place end.place below))
