use Rattle.std.proofs.Common.{◌∙◌, ◌<◌, ℕ, List, [], ◌∷◌, ◌++◌, length, take, refl, ap, sym, arith}
use Rattle.std.specs.Prelude.{◌||◌, bytes_eq}
use Rattle.std.specs.Vec.{vec_items}
use Rattle.std.proofs.lemmas.List.{take_all, take_more}
use Rattle.account_model.specs.Text.{is_listed}
use Rattle.line_edits.specs.NameSets.{has_text}
use Rattle.line_edits.proofs.NameSets.{listed-more, set-takes}
use Rattle.line_edits.proofs.name_set.texts_of.Goals as goal

pub names-init : goal.names-init
names-init c = λ name. rw c.new-texts.ensures.empty refl

pub names-preserved : goal.names-preserved
names-preserved c = λ name.
    let names = c.args.names.now in
    let place = c.names.name-index in
    let new = c.name-item.result in
    let inside : place < length names = omega arith in
    set-takes vec_items _ c.names.texts c.insert.new.self c.in_ok-insert.ensures.updates name
    ∙ ap (λ text. bytes_eq text name || has_text c.names.texts vec_items name)
    (c.in_ok-from_slice.ensures.items ∙ c.as_slice.ensures)
    ∙ listed-more name new (take place names) (has_text c.names.texts vec_items name)
    (c.names.invariant name)
    ∙ ap (is_listed name)
    (sym (take_more names place new inside
    ∙ ap (λ (last : List ℕ). take place names ++ last ∷ []) (sym c.name-item.is)))

pub returns : goal.returns
returns c = λ name.
    c.names.invariant name
    ∙ ap (is_listed name) (take_all c.names.name-index c.args.names.now (omega arith))
