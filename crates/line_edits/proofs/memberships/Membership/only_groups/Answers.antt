use Rattle.std.proofs.Common.{◌≡◌, ◌∙◌, ℕ, Bool, false, List, sym}
use Rattle.std.specs.Prelude.{bytes_eq, map, not}
use Rattle.std.specs.Vec.{vec_items}
use Rattle.std.proofs.lemmas.Slice.Eq.{bytes_eq-Decides}
use Rattle.line_edits.proofs.LeftLemmas.{so}
use Rattle.line_edits.proofs.NamingLemmas.{also-only, kept-only}
use Rattle.line_edits.proofs.memberships.Membership.only_groups.Goals as goal

-- texts that don't differ are the same
same-texts :
    (one other : List ℕ) (differs : Bool)
    → differs ≡ not (bytes_eq one other)
    → differs ≡ false
    → one ≡ other
same-texts one other differs is none =
    (bytes_eq-Decides one other).0 (so (bytes_eq one other) (sym is ∙ none))

pub returns-in-Kept : goal.returns-in-Kept
returns-in-Kept c =
    kept-only c.args.self.now
    (sym c.as_slice.ensures
    ∙ same-texts c.as_slice.result.now c.as_slice-2.result.now c.ne.result c.ne.ensures
    c.if-ne.false
    ∙ c.as_slice-2.ensures)
    c.in-Kept.is

pub returns-in-Also : goal.returns-in-Also
returns-in-Also c =
    also-only c.args.self.now c.in-Also.groups (map vec_items c.each.result.now)
    (sym c.as_slice.ensures
    ∙ same-texts c.as_slice.result.now c.as_slice-2.result.now c.ne.result c.ne.ensures
    c.if-ne.false
    ∙ c.as_slice-2.ensures)
    c.in-Also.is c.each.ensures
