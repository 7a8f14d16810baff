use Rattle.std.proofs.Common.{◌≡◌, ◌∙◌, ◌-◌, ◌==◌, ◌∷◌, ◌++◌, drop, take, ap, sym, refl, arith}
use Rattle.std.proofs.Math.Seq.{take-append_seam}
use Rattle.std.proofs.lemmas.Grind.{flat_map-append}
use Rattle.acct_text.specs.Lines.{file_bytes, line_bytes, lines_of}
use Rattle.acct_text.proofs.LinesLaws.{lines_of-are}
use Rattle.acct_tables.specs.SeenLines.{seen_line}
use Rattle.acct_tables.proofs.MarkLemmas.{all-behind}
use Rattle.acct_tables.proofs.BegunLines.{begun-at}
use Rattle.acct_tables.proofs.text_between.cut_at.Goals as goal

-- the text is cut behind an end
pub returns : goal.returns
returns c =
    let text = c.args.text.now in
    let at = c.args.place - c.args.first in
    let begun = begun-at text at (at == 0) (omega arith) refl
    (sym c.begins_line.ensures ∙ c.if-not-begins_line.false) in
    let rest = drop at text in
    let joined : text ≡ file_bytes begun.front ++ rest =
    sym (lines_of-are text).joined ∙ ap file_bytes begun.cut
    ∙ flat_map-append line_bytes begun.front (lines_of rest)
    ∙ ap (λ tail. file_bytes begun.front ++ tail) (lines_of-are rest).joined in
    record {
      front = begun.front;
      lines = begun.cut
          ∙ ap (λ lines. begun.front ++ lines)
          (sym (c.of-left.ensures ∙ ap lines_of (all-behind text at))
          ∙ c.in_ok-line.ensures.taken
          ∙ ap (λ lines. seen_line c.in_ok-line.line ∷ lines) (sym c.bytes.ensures.lines));
      bytes = ap (take at) joined
          ∙ ap (λ count. take count (file_bytes begun.front ++ rest)) (sym begun.size)
          ∙ take-append_seam (file_bytes begun.front) rest;
      place_is = omega (arith, begun.size);
    }
