use Rattle.std.proofs.Common.{◌≡◌, ◌+◌, ◌<◌, ◌∙◌, ◌++◌, ap, append_assoc, arith, length, sym}
use Rattle.std.proofs.lemmas.List.{length-map}
use Rattle.std.proofs.lemmas.Result.{on_ok_weaker}
use Rattle.plan_tool.specs.SeenDiff.{hunk_between, seen_diff, seen_diff_line}
use Rattle.plan_tool.proofs.HunkLemmas.{point-moved}
use Rattle.plan_tool.proofs.HunkWalk.{hunk-ends, hunks_from, last-hunk, shown-on}
use Rattle.plan_tool.proofs.hunks.push_hunks.Goals as goal
use Rattle.plan_tool.proofs.hunks.push_hunks.Goals.{then-not-is_shown+in_ok-push_hunk, else-not-is_shown}

pub lines-preserved : goal.lines-preserved
lines-preserved c =
    let lines = c.args.lines.now in
    let seen = seen_diff lines in
    let is = c.lines.invariant in
    let out = c.lines.out in
    let start = c.lines.start.place in
    let here = c.lines.here.place in
    let size = length-map lines seen_diff_line in
    let inside : here < length seen = omega (arith, size, is.place, c.lines-test.true) in
    let moved = point-moved lines c.lines.here c.behind-behind.result c.lines.line-index _
    c.behind-behind.ensures is.place c.lines-test.true is.here in
    let behind : c.behind-behind.result.place ≡ here + 1 =
    ap (λ point. point.place) c.behind-behind.ensures in
    elim c.if-not-is_shown.branch [
      | then-not-is_shown+in_ok-push_hunk w ↦ record {
        start = rw w.start-is moved;
        here = rw w.here-is moved;
        place = rw w.here-is (omega (arith, behind, is.place));
        begun = rw (w.start-is, w.here-is) (omega arith);
        told = rw (w.out-is, w.start-is, w.here-is, behind)
            (ap (λ text. text ++ hunks_from seen (here + 1) (here + 1)) w.in_ok-push_hunk.ensures
            ∙ append_assoc out (hunk_between seen start here) _
            ∙ ap (λ text. out ++ text)
            (hunk-ends seen start here inside (sym c.is_shown.ensures ∙ w.if-not-is_shown.true))
            ∙ is.told);
      }
      | else-not-is_shown w ↦ record {
        start = rw w.start-is is.start;
        here = rw w.here-is moved;
        place = rw w.here-is (omega (arith, behind, is.place));
        begun = rw (w.start-is, w.here-is) (omega (arith, behind, is.begun));
        told = rw (w.out-is, w.start-is, w.here-is, behind)
            (ap (λ text. out ++ text) (shown-on seen start here is.begun inside
            (sym c.is_shown.ensures ∙ w.if-not-is_shown.false))
            ∙ is.told);
      }
    ]

pub returns : goal.returns
returns c =
    let lines = c.args.lines.now in
    let seen = seen_diff lines in
    let is = c.lines.invariant in
    let size = length-map lines seen_diff_line in
    let end : c.lines.here.place ≡ length seen =
    omega (arith, size, is.place, c.lines-test.false, c.lines.auto.line-index-end) in
    on_ok_weaker c.push_hunk-2.result (λ pushed. pushed
    ∙ ap (λ hunk. c.lines.out ++ hunk) (last-hunk seen c.lines.start.place c.lines.here.place end)
    ∙ is.told) c.push_hunk-2.ensures
