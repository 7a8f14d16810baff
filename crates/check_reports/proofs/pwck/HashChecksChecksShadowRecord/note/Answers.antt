use Rattle.std.proofs.Common.{◌∙◌, ◌++◌, Bool, List, append_assoc, sym, ap, ap₂}
use Rattle.std.specs.Prelude.{Some, not, option_map}
use Rattle.account_model.specs.Records.{shadow_format}
use Rattle.account_model.specs.Problems.{ChangeInFuture, NoPasswdEntry, Problem, problem_if}
use Rattle.account_model.specs.Pwck.{is_after}
use Rattle.account_model.specs.Users.{has_user}
use Rattle.check_reports.specs.Seen.{users_seen}
use Rattle.check_reports.proofs.HashLemmas.{hash-told, told_of}
use Rattle.check_reports.proofs.pwck.HashChecksChecksShadowRecord.note.Goals as goal

pub returns-clause-noted : goal.returns-clause-noted
returns-clause-noted c =
    let files = users_seen c.args.self.now.users.now in
    let today = c.args.self.now.today in
    let found = c.args.found.now in
    let name = c.in_ok-hash.hash.name.now in
    let lacks = NoPasswdEntry name in
    let future = ChangeInFuture name in
    ap Some (c.in_ok-note_if-2.ensures
    ∙ ap₂ (λ (front : List Problem) (test : Bool). front ++ problem_if test future)
    (c.in_ok-note_if.ensures
    ∙ ap (λ (test : Bool). found ++ problem_if (not test) lacks) c.has_near-lacks_entry.ensures)
    c.is_after-is_future.ensures
    ∙ append_assoc found (problem_if (not (has_user name files)) lacks)
    (problem_if (is_after today c.in_ok-hash.hash.last_change) future))
    ∙ ap (option_map (told_of files today found)) (sym c.in_ok-hash.ensures)
    ∙ sym (hash-told files today found (shadow_format.read c.args.text.now))
