use Rattle.std.proofs.Common.{◌∙◌, [], length, refl, ap, arith, subst}
use Rattle.account_model.specs.Format.{records_of}
use Rattle.acct_tables.specs.SeenLines.{seen_line}
use Rattle.acct_tables.proofs.LinesCounted.{lines-counted}
use Rattle.account_model.specs.Problems.{problems_behind}
use Rattle.check_reports.specs.Known.{NotesLine}
use Rattle.check_reports.specs.Reported.{with_problems}
use Rattle.check_reports.proofs.ReportWalk.{names-end, place-fits, report-end, report-in-lines, report-more, tells-before, told-behind}
use Rattle.check_reports.proofs.report.Report.push_table.Goals as goal

pub lines-init : goal.lines-init
lines-init g c =
    let format = g.R.TableRecord.format in
    let problems = g.K.Checks.problems c.args.known.now in
    let are = c.of-left.ensures ∙ c.text_of.ensures in
    record {
      of_file = refl;
      reported = record {
        taken = record { done = []; joined = are };
        counted = refl;
        fits = omega (arith, lines-counted c.text_of.result.now, ap length c.text_of.ensures);
        noted = c.requires;
        so_far = ap (λ lines. with_problems c.args.tab
            (problems_behind format problems [] lines) c.args.self.now) are;
      };
    }

pub note-requires-clause-behind : goal.note-requires-clause-behind
note-requires-clause-behind g c = told-behind _ _ _ _ _ _ _ _ c.lines.invariant.reported

pub note-requires-clause-room : goal.note-requires-clause-room
note-requires-clause-room g c =
    place-fits _ _ _ _ _ _ _ _ c.lines.invariant.reported _ _ c.in-Some.ensures.taken

pub push_checked-requires-clause-room : goal.push_checked-requires-clause-room
push_checked-requires-clause-room g c =
    place-fits _ _ _ _ _ _ _ _ c.lines.invariant.reported _ _ c.in-Some.ensures.taken

pub overflow_add-place : goal.overflow_add-place
overflow_add-place g c = omega (
  arith,
  place-fits _ _ _ _ _ _ _ _ c.lines.invariant.reported _ _ c.in-Some.ensures.taken,
)

pub lines-preserved : goal.lines-preserved
lines-preserved g c =
    let format = g.R.TableRecord.format in
    let is = c.lines.invariant.reported in
    let line = seen_line c.in-Some.line in
    let rest = c.take.new.self in
    let taken = c.in-Some.ensures.taken in
    let after = c.note.new.self in
    let notes = subst (λ name. NotesLine name c.lines.place c.lines.table after)
    c.in_ok-checked.ensures.named c.in_ok-note.ensures in
    record {
      of_file = ap (λ table. table.file) notes.stays ∙ c.lines.invariant.of_file;
      reported = report-more _ _ _ _ _ _ _ _ is line rest taken after notes c.push_checked.new.self
          (c.in_ok-push_checked.ensures (records_of format is.taken.done)
          (tells-before _ _ _ _ _ _ _ _ is line rest taken after notes));
    }

pub lines-smaller : goal.lines-smaller
lines-smaller g c = omega (arith, ap length c.in-Some.ensures.taken)

pub returns-clause-told : goal.returns-clause-told
returns-clause-told g c =
    let format = g.R.TableRecord.format in
    let problems = g.K.Checks.problems c.args.known.now in
    report-end _ _ _ _ _ _ _ _ c.lines.invariant.reported c.in_default.ensures.taken
    ∙ ap (λ problems. with_problems c.args.tab problems c.args.self.now)
    (report-in-lines format problems c.args.table.now.file.now)

pub returns-clause-noted : goal.returns-clause-noted
returns-clause-noted g c =
    names-end _ _ _ _ _ _ _ _ c.lines.invariant.reported c.in_default.ensures.taken
