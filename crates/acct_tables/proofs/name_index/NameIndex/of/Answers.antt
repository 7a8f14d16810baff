use Rattle.std.proofs.Common.{◌∙◌, ◌+◌, ap, length, take, sym, subst, arith}
use Rattle.std.specs.Prelude.{Some, None}
use Rattle.acct_text.specs.Lines.{lines_of}
use Rattle.acct_tables.specs.NameIndex.{IsNoted, TellsOf, TellsAtMost, line_names, told}
use Rattle.acct_tables.specs.SeenLines.{seen_line}
use Rattle.acct_tables.proofs.LinesCounted.{lines-counted}
use Rattle.acct_tables.proofs.NameIndexLemmas.{names-many, names-more, next-behind, next-inside, none-left, told-other, told-record, told-within}
use Rattle.acct_tables.proofs.name_index.NameIndex.of.Goals as goal
use Rattle.acct_tables.proofs.name_index.NameIndex.of.Goals.{in-Some-name_of+in_ok-add, in_default-name_of}

pub add-requires-clause-behind : goal.add-requires-clause-behind
add-requires-clause-behind g c =
    let format = g.R.TableRecord.format in
    let all = lines_of c.args.text.now in
    let place = c.lines.place in
    let old = told c.lines.index in
    subst (λ n. TellsAtMost n old)
    (names-many format all c.lines.left c.take.new.self place (seen_line c.in-Some.line)
    c.lines.invariant.so_far c.in-Some.ensures.taken)
    (told-within (line_names format (take place all)) old c.lines.invariant.tells)

pub add-requires-clause-room : goal.add-requires-clause-room
add-requires-clause-room g c =
    let text = c.args.text.now in
    omega (
      arith,
      lines-counted text,
      next-inside g.R.TableRecord.format (lines_of text) c.lines.left c.take.new.self c.lines.place
          (seen_line c.in-Some.line) c.lines.invariant.so_far c.in-Some.ensures.taken,
    )

pub overflow_add-place : goal.overflow_add-place
overflow_add-place g c =
    let text = c.args.text.now in
    omega (
      arith,
      lines-counted text,
      next-inside g.R.TableRecord.format (lines_of text) c.lines.left c.take.new.self c.lines.place
          (seen_line c.in-Some.line) c.lines.invariant.so_far c.in-Some.ensures.taken,
    )

pub lines-preserved : goal.lines-preserved
lines-preserved g c =
    let format = g.R.TableRecord.format in
    let all = lines_of c.args.text.now in
    let place = c.lines.place in
    let line = seen_line c.in-Some.line in
    let names = line_names format (take place all) in
    let old = told c.lines.index in
    let taken = c.in-Some.ensures.taken in
    let so_far = c.lines.invariant.so_far in
    let more = names-more format all c.lines.left c.take.new.self place line so_far taken in
    let many = names-many format all c.lines.left c.take.new.self place line so_far taken in
    record {
      so_far = next-behind format all c.lines.left c.take.new.self place line so_far taken;
      tells = elim c.match-name_of.branch [
        | in-Some-name_of+in_ok-add w ↦
            let name = w.in-Some-name_of.name.now in
            let new = told w.add.new.self in
            subst (λ index. TellsOf (line_names format (take (place + 1) all)) (told index))
            (sym w.index-is)
            (subst (λ names. TellsOf names new) (sym (more (Some name) w.in-Some-name_of.ensures))
            (told-record names old c.lines.invariant.tells name new
            (subst (λ n. IsNoted name n old new) (sym many) w.in_ok-add.ensures)))
        | in_default-name_of w ↦
            subst (λ index. TellsOf (line_names format (take (place + 1) all)) (told index))
            (sym w.index-is)
            (subst (λ names. TellsOf names old) (sym (more None w.in_default-name_of.ensures))
            (told-other names old c.lines.invariant.tells))
      ];
    }

pub lines-smaller : goal.lines-smaller
lines-smaller g c = omega (arith, ap length c.in-Some.ensures.taken)

pub returns : goal.returns
returns g c =
    let format = g.R.TableRecord.format in
    let all = lines_of c.args.text.now in
    subst (λ lines. TellsOf (line_names format lines) (told c.lines.index))
    (none-left all c.lines.place (sym c.lines.invariant.so_far ∙ c.in_default.ensures.taken))
    c.lines.invariant.tells
