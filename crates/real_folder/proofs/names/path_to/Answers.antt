use Rattle.std.proofs.Common.{◌≡◌, sym, ◌∙◌, length, false}
use Rattle.std.specs.Prelude.{◌==◌}
use Rattle.real_folder.proofs.names.path_to.Goals as goal

pub returns : goal.returns
returns c =
    let named : (length c.args.etc.now == 0) ≡ false =
    sym c.is_empty.ensures ∙ c.if-is_empty.false in
    rw named c.path_below.ensures
