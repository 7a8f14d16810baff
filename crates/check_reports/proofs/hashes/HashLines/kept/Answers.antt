use Rattle.std.proofs.Common.{◌∙◌, List, ℕ, ap, sym}
use Rattle.std.specs.Prelude.{Some, option_map}
use Rattle.std.proofs.lemmas.Slice.Eq.{bytes_eq-Decides}
use Rattle.check_reports.specs.Hashes.{hash_in, seen_hash}
use Rattle.check_reports.proofs.HashLemmas.{hash-first}
use Rattle.check_reports.proofs.hashes.HashLines.kept.Goals as goal

pub returns : goal.returns
returns c =
    let line = c.in-Some.line.now in
    let hash = c.in_ok-last_change-in-Some.field-0 in
    let decides = bytes_eq-Decides line.text.now c.args.text.now in
    let same = ap hash_in (sym (decides.0 (sym c.eq.ensures ∙ c.if-eq.true))) in
    let found = same ∙ line.of_text ∙ ap (option_map seen_hash) c.in_ok-last_change-in-Some.was in
    hash-first c.args.text.now hash found
    ∙ ap (λ (name : List ℕ). Some (name, hash.last_change)) (sym c.first_field-name.ensures)
