use Rattle.std.proofs.Common.{[], ◌∷◌, sym, ◌∙◌, append_assoc}
use Rattle.acct_text.proofs.CutOnce.{cut-lacks, cut-whole, uncut-none}
use Rattle.intent_file.proofs.cursor.Cursor.word.Goals as goal

pub returns : goal.returns
returns c =
    let end = c.args.end in
    let before = c.in_ok-cut.cut.before.now in
    let behind = c.in_ok-cut.cut.behind.now in
    let cut = c.in_ok-cut.ensures.cut in
    record {
      stands = cut-lacks end _ before behind cut;
      whole = sym c.self.view_is
          ∙ (cut-whole end _ before behind cut ∙ sym (append_assoc before (end ∷ []) behind));
    }

pub returns-in_err-cut : goal.returns-in_err-cut
returns-in_err-cut c = rw c.from_residual.ensures
    (λ word rest begins. uncut-none c.args.end _ c.in_err-cut.ensures.cut word rest
    (c.self.view_is ∙ (begins.whole ∙ append_assoc word (c.args.end ∷ []) rest)))
