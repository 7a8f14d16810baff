use Rattle.std.proofs.Common.{ap, ◌∙◌, [], slice_get, Option}
use Rattle.std.specs.Prelude.{unwrap_or}
use Rattle.acct_text.specs.Bytes.{Bytes}
use Rattle.intent_file.specs.Intent.{Intended}
use Rattle.intent_file.specs.Pieces.{intent_pieces}
use Rattle.commit_steps.specs.States.{intended}
use Rattle.commit_steps.proofs.prepared.Prepared.intent_piece.Goals as goal

pub returns-in-Some-clause-value : goal.returns-in-Some-clause-value
returns-in-Some-clause-value c =
    let intent = c.self.invariant.1 ∙ ap intended c.self.view_is in
    ap (λ (found : Option Bytes). unwrap_or found [])
    (c.in-Some.ensures
    ∙ ap (λ (one : Intended). slice_get (intent_pieces one) c.args.place) intent)

pub returns-in-None-clause-value : goal.returns-in-None-clause-value
returns-in-None-clause-value c =
    let intent = c.self.invariant.1 ∙ ap intended c.self.view_is in
    ap (λ (found : Option Bytes). unwrap_or found [])
    (c.in-None.ensures
    ∙ ap (λ (one : Intended). slice_get (intent_pieces one) c.args.place) intent)
