use Rattle.std.proofs.Common.{◌∙◌, ap}
use Rattle.std.specs.Prelude.{map}
use Rattle.std.specs.Vec.{vec_items}
use Rattle.account_model.specs.Text.{is_listed}
use Rattle.line_edits.proofs.NameSets.{keys-listed}
use Rattle.line_edits.proofs.name_set.NameSet.each.Goals as goal

pub returns : goal.returns
returns c = λ name.
    ap (λ keys. is_listed name (map vec_items keys)) c.as_slice.ensures.keys
    ∙ keys-listed vec_items name c.self.inside.texts.keys
    ∙ c.self.invariant name
    ∙ ap (is_listed name) c.self.view_is
