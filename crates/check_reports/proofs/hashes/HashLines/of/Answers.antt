use Rattle.std.proofs.Common.{◌∙◌, ◌+◌, ap, length, take, sym, subst, arith}
use Rattle.std.specs.Prelude.{Some, None, option_map}
use Rattle.account_model.specs.Records.{shadow_format}
use Rattle.acct_tables.specs.NameIndex.{IsNoted, TellsOf, TellsAtMost, line_names, told}
use Rattle.acct_tables.specs.SeenLines.{seen_line}
use Rattle.acct_tables.proofs.LinesCounted.{lines-counted}
use Rattle.acct_tables.proofs.NameIndexLemmas.{names-many, names-more, next-behind, next-inside, none-left, told-other, told-record, told-within}
use Rattle.account_model.specs.Tables.{table_lines}
use Rattle.check_reports.proofs.HashLemmas.{hash_name, hash-named}
use Rattle.check_reports.proofs.hashes.HashLines.of.Goals as goal
use Rattle.check_reports.proofs.hashes.HashLines.of.Goals.{in-Some-hash+in_ok-add, in_default-hash}

pub lines-init : goal.lines-init
lines-init c = record { so_far = c.of-left.ensures ∙ c.text_of.ensures; tells = c.requires }

pub add-requires-clause-behind : goal.add-requires-clause-behind
add-requires-clause-behind c =
    let all = table_lines c.args.file.now in
    let place = c.lines.place in
    let old = told c.lines.names in
    subst (λ n. TellsAtMost n old)
    (names-many shadow_format all c.lines.left c.take.new.self place (seen_line c.in-Some.line)
    c.lines.invariant.so_far c.in-Some.ensures.taken)
    (told-within (line_names shadow_format (take place all)) old c.lines.invariant.tells)

pub add-requires-clause-room : goal.add-requires-clause-room
add-requires-clause-room c =
    omega (
      arith,
      lines-counted c.text_of.result.now,
      ap length c.text_of.ensures,
      next-inside shadow_format (table_lines c.args.file.now) c.lines.left c.take.new.self
          c.lines.place (seen_line c.in-Some.line) c.lines.invariant.so_far
          c.in-Some.ensures.taken,
    )

pub overflow_add-place : goal.overflow_add-place
overflow_add-place c =
    omega (
      arith,
      lines-counted c.text_of.result.now,
      ap length c.text_of.ensures,
      next-inside shadow_format (table_lines c.args.file.now) c.lines.left c.take.new.self
          c.lines.place (seen_line c.in-Some.line) c.lines.invariant.so_far
          c.in-Some.ensures.taken,
    )

pub lines-preserved : goal.lines-preserved
lines-preserved c =
    let all = table_lines c.args.file.now in
    let place = c.lines.place in
    let line = seen_line c.in-Some.line in
    let names = line_names shadow_format (take place all) in
    let old = told c.lines.names in
    let taken = c.in-Some.ensures.taken in
    let so_far = c.lines.invariant.so_far in
    let more = names-more shadow_format all c.lines.left c.take.new.self place line so_far taken in
    let many = names-many shadow_format all c.lines.left c.take.new.self place line so_far taken in
    let read = c.of-read.result in
    let named = hash-named line read.text.now read.hash c.of-read.ensures read.of_text in
    record {
      so_far = next-behind shadow_format all c.lines.left c.take.new.self place line so_far taken;
      tells = elim c.match-read.branch [
        | in-Some-hash+in_ok-add w ↦
            let name = w.in-Some-hash.hash.name.now in
            let new = told w.add.new.self in
            subst (λ index. TellsOf (line_names shadow_format (take (place + 1) all)) (told index))
            (sym w.names-is)
            (subst (λ names. TellsOf names new)
            (sym (more (Some name) (sym (named ∙ ap (option_map hash_name) w.in-Some-hash.is))))
            (told-record names old c.lines.invariant.tells name new
            (subst (λ n. IsNoted name n old new) (sym many) w.in_ok-add.ensures)))
        | in_default-hash w ↦
            subst (λ index. TellsOf (line_names shadow_format (take (place + 1) all)) (told index))
            (sym w.names-is)
            (subst (λ names. TellsOf names old)
            (sym (more None (sym (named ∙ ap (option_map hash_name) w.in_default-hash.is))))
            (told-other names old c.lines.invariant.tells))
      ];
    }

pub lines-smaller : goal.lines-smaller
lines-smaller c = omega (arith, ap length c.in-Some.ensures.taken)

pub returns : goal.returns
returns c =
    subst (λ lines. TellsOf (line_names shadow_format lines) (told c.lines.names))
    (none-left (table_lines c.args.file.now) c.lines.place
    (sym c.lines.invariant.so_far ∙ c.in_default.ensures.taken))
    c.lines.invariant.tells
