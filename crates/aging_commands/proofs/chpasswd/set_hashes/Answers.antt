use Rattle.std.proofs.Common.{◌∙◌, ap, refl}
use Rattle.acct_text.specs.Lines.{lines_of}
use Rattle.account_model.specs.Tables.{in_order}
use Rattle.aging_commands.proofs.HashLineLemmas.{scripts-read}
use Rattle.aging_commands.proofs.chpasswd.set_hashes.Goals as goal

pub returns : goal.returns
returns c =
    let lines = lines_of c.args.input.now in
    let hashes = c.deref.result.now in
    record {
      unrefused = rw (c.in_ok-hashes.ensures.refused) refl;
      edits = c.in_ok-new_hashes.ensures {u = tt}
          ∙ ap in_order (scripts-read c.args.whose c.args.tables.now c.args.day hashes lines
          (rw (c.deref.ensures.value) c.in_ok-hashes.ensures.read));
    }
