use Rattle.std.proofs.Common.{◌∙◌, ◌++◌, [], append-nil, length, refl, sym, ap, subst, arith}
use Rattle.std.specs.Prelude.{flat_map}
use Rattle.acct_text.specs.Lines.{file_bytes}
use Rattle.account_model.specs.Edits.{becomes}
use Rattle.account_model.specs.Format.{records_of}
use Rattle.acct_tables.specs.SeenLines.{seen_line}
use Rattle.acct_tables.proofs.LinesAhead.{walked, walked-all}
use Rattle.account_model.specs.Tables.{table_lines}
use Rattle.acct_tables.proofs.FileLemmas.{records-in}
use Rattle.check_reports.specs.Secrets.{HasSecrets}
use Rattle.check_reports.proofs.PlaceLemmas.{order-within, place-fits}
use Rattle.check_reports.proofs.RecordWalk.{records-more, with_next}
use Rattle.check_reports.proofs.line_changes.walk.Goals as goal

pub lines-init : goal.lines-init
lines-init g c =
    let change = becomes g.R.TableRecord.format (g.C.LineChange.change c.args.change.now) in
    record {
      taken = record { done = []; joined = c.of-left.ensures ∙ c.text_of-text.ensures };
      kept = c.new.ensures;
      made = ap (λ made. made ++ file_bytes (flat_map change c.of-left.result)) (c.in_ok-with_room.ensures {u = tt})
          ∙ ap (λ lines. file_bytes (flat_map change lines)) (c.of-left.ensures ∙ c.text_of-text.ensures);
    }

pub pass-requires : goal.pass-requires
pass-requires g c = λ k.
    let format = g.R.TableRecord.format in (
      (refl, tt),
      (
        order-within format (records_of format c.lines.invariant.taken.done)
            c.lines.walked.secrets.order c.lines.invariant.kept.order,
        place-fits format _ _ _ _ c.lines.invariant.taken _ c.text_of-text.result.now
            c.lines.invariant.kept.order.counted c.in-Some.ensures.taken c.text_of-text.ensures
            (omega arith),
      ),
    )

pub lines-preserved : goal.lines-preserved
lines-preserved g c =
    let format = g.R.TableRecord.format in
    let taken = c.lines.invariant.taken in
    let line = seen_line c.in-Some.line in
    record {
      taken = with_next _ _ line c.take.new.self taken c.in-Some.ensures.taken;
      kept = subst (λ records. HasSecrets format g.L.AccountLine.secret records
          c.pass.new.self.secrets)
          (sym (records-more format taken.done line))
          (c.in_ok-pass.ensures.secrets _ c.lines.invariant.kept);
      made = walked (becomes format (g.C.LineChange.change c.args.change.now)) line c.lines.left
          c.take.new.self c.lines.walked.text c.pass.new.self.text _
          c.in-Some.ensures.taken c.in_ok-pass.ensures.text c.lines.invariant.made;
    }

pub lines-smaller : goal.lines-smaller
lines-smaller g c = omega (arith, ap length c.in-Some.ensures.taken)

pub returns-clause-secrets : goal.returns-clause-secrets
returns-clause-secrets g c =
    let format = g.R.TableRecord.format in
    let taken = c.lines.invariant.taken in
    subst (λ records. HasSecrets format g.L.AccountLine.secret records c.lines.walked.secrets)
    (ap (records_of format) (sym (append-nil taken.done)
    ∙ ap (λ left. taken.done ++ left) (sym c.in_default.ensures.taken)
    ∙ taken.joined)
    ∙ records-in format (table_lines c.args.file.now) c.args.file.now refl)
    c.lines.invariant.kept

pub returns-clause-text : goal.returns-clause-text
returns-clause-text g c =
    walked-all (becomes g.R.TableRecord.format (g.C.LineChange.change c.args.change.now))
    c.lines.left c.lines.walked.text _ c.in_default.ensures.taken c.lines.invariant.made
