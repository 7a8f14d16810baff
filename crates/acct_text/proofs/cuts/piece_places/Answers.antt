use Rattle.std.proofs.Common.{◌≡◌, [], ◌∷◌, refl, ◌∙◌}
use Rattle.std.proofs.lemmas.List.Elements.{All-rest}
use Rattle.std.proofs.Math.Seq.{append_snoc}
use Rattle.memchr.specs.Find.{is_byte}
use Rattle.memchr.proofs.lemmas.CallerLemmas.{All-places}
use Rattle.acct_text.proofs.PiecePlaces.{IsSeparatorAt, places_to-separators}
use Rattle.acct_text.proofs.cuts.piece_places.Goals as goal

-- all separators are to come
pub loop-end-init : goal.loop-end-init
loop-end-init c =
    let text = c.args.text.now in
    let to_come = c.into_iter-end-iterator.ensures.into_iter_gives in
    let all = c.memchr_iter-end-items.ensures.value in
    record {
      whole = rw (c.new-places.ensures.items, to_come, all) refl;
      inside = rw (to_come, all) (All-places (is_byte c.args.separator) text);
    }

-- the place up to the next separator goes to the places so far
pub loop-end-preserved : goal.loop-end-preserved
loop-end-preserved c =
    let text = c.args.text.now in
    let at = c.in-Some.end in
    let rest = c.next.new.self in
    let separators = c.loop-end.end-iterator in
    let next : separators ≡ at ∷ rest = c.in-Some.ensures.steps in
    let whole = rw next at c.loop-end.invariant.whole in
    let inside = c.loop-end.invariant.inside in
    record {
      whole = rw (c.in_ok-push.ensures.items, append_snoc) whole;
      inside = All-rest (IsSeparatorAt c.args.separator text) at rest separators next inside;
    }

-- behind the last separator the last piece goes up to the end
pub returns : goal.returns
returns c =
    let none : c.loop-end.end-iterator ≡ [] = c.in-None.ensures.steps.0 in
    let whole = rw none at c.loop-end.invariant.whole in
    c.in_ok-push-2.ensures.items ∙ whole
    ∙ places_to-separators (is_byte c.args.separator) c.args.text.now
