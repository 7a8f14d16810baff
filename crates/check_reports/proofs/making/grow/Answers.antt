use Rattle.std.proofs.Common.{◌∙◌, ◌+◌, ◌++◌, refl, sym, subst}
use Rattle.std.specs.List.{cons_option}
use Rattle.std.specs.Option.{option_to_list}
use Rattle.std.proofs.lemmas.Result.{on_ok_weaker}
use Rattle.acct_text.specs.Lines.{lines_of}
use Rattle.check_reports.specs.declared.making.Grown.{Grown}
use Rattle.check_reports.specs.Gathered.{IsGrown}
use Rattle.check_reports.specs.Sorted.{IsOrderOf}
use Rattle.check_reports.proofs.GrownLemmas.{grown-has, grown-known, grown-more, made-written, more-grown}
use Rattle.check_reports.proofs.making.grow.Goals as goal

pub returns-then-is_known : goal.returns-then-is_known
returns-then-is_known g c = λ before rest is grown.
    let main = g.M.TableRecord.format in
    let format = g.H.TableRecord.format in
    let m = g.P.AccountLine.shown c.in-Some.main in
    let old = c.args.grown.now in
    let new : Grown = record { text = old.text; there = old.there; place = old.place + 1 } in
    let reads = c.in-Some.ensures {u = tt} in
    let of_record = subst (λ found. IsOrderOf main (before ++ cons_option found rest) c.args.order.now)
    (sym reads) is in
    let known = sym (c.is_known-is_known.ensures before rest of_record grown) ∙ c.if-is_known.true
    in
    record {
      lines = grown-has main format (g.T.Making.make c.args.making.now)
          (g.met.T.Making.is_making.named c.args.making.now) (main.read c.args.line.now) m
          (lines_of old.text) reads known;
      grown = subst (λ found. IsGrown main format (before ++ option_to_list found) new) reads
          (grown-known main format before m old new (sym (grown.names (main.name m)) ∙ known) grown
          refl refl refl);
    }

pub returns : goal.returns
returns g c =
    let main = g.M.TableRecord.format in
    let format = g.H.TableRecord.format in
    let make = g.T.Making.make c.args.making.now in
    let named = g.met.T.Making.is_making.named c.args.making.now in
    let no_blank = g.met.T.Making.is_making.no_blank in
    let same = g.met.H.TableRecord.is_line_format.same in
    let m = g.P.AccountLine.shown c.in-Some.main in
    let old = c.args.grown.now in
    let text = c.append_made.new.text in
    let new : Grown = record { text = text; there = old.there; place = old.place + 1 } in
    let reads = c.in-Some.ensures {u = tt} in
    let written = made-written format make (main.read c.args.line.now) m reads c.requires.written in
    on_ok_weaker c.append_made.result
    (λ appended before rest is grown.
    let of_record = subst (λ found. IsOrderOf main (before ++ cons_option found rest) c.args.order.now)
    (sym reads) is in
    record {
      lines = grown-more main format make named no_blank same m written old new appended
          (main.read c.args.line.now) reads
          (sym (c.is_known-is_known.ensures before rest of_record grown) ∙ c.if-is_known.false);
      grown = subst (λ found. IsGrown main format (before ++ option_to_list found) new) reads
          (more-grown main format make named no_blank same m written old new appended before grown
          refl refl);
    })
    c.append_made.ensures
