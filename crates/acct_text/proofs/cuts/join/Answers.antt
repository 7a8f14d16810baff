use Rattle.std.proofs.Common.{◌≡◌, List, ℕ, [], ◌∷◌, ◌++◌, sym, take, refl, ◌∙◌, ap, append_assoc, arith}
use Rattle.std.specs.List.{join_with_byte}
use Rattle.std.proofs.lemmas.List.{take_more}
use Rattle.std.proofs.Math.Seq.{append_snoc}
use Rattle.acct_text.proofs.cuts.join.Goals as goal

-- one more part stands behind a separator
join-more :
    (separator : ℕ) (first : List ℕ) (rest : List (List ℕ)) (part : List ℕ)
    → join_with_byte separator (first ∷ (rest ++ part ∷ []))
    ≡ join_with_byte separator (first ∷ rest) ++ (separator ∷ part)
join-more separator first [] part = refl
join-more separator first (next ∷ rest) part =
    ap (λ text. first ++ (separator ∷ text)) (join-more separator next rest part)
    ∙ sym (append_assoc
    first (separator ∷ join_with_byte separator (next ∷ rest)) (separator ∷ part))

-- a separator and the next part make the text of one part more
pub loop-part-preserved : goal.loop-part-preserved
loop-part-preserved c =
    let separator = c.args.separator in
    let place = c.loop-part.part-index in
    let done = c.push.new.self ∷ take place c.in-Some.rest.now in
    let more = take_more c.in-Some.rest.now place c.part-item.result (omega arith) in
    let next = c.as_slice-in-loop-part.ensures ∙ c.part-item.is in
    rw (c.in_ok-push-3.ensures.ok, c.in_ok-push-2.ensures.ok, c.loop-part.invariant)
    (rw (append_snoc, more, join-more)
    (ap (λ part. join_with_byte separator done ++ (separator ∷ part)) next))
