use Rattle.std.proofs.Common.{◌≡◌, [], ◌∷◌, ◌++◌, take}
use Rattle.std.specs.Prelude.{flat_map}
use Rattle.acct_text.specs.Bytes.{newline}
use Rattle.group_commands.proofs.groupmems.lines_of.Given as goal

-- the lines so far are those of the names so far
abbrev pub invariant-names : goal.invariant-names
invariant-names l =
    l.lines ≡ flat_map (λ name. name ++ newline ∷ []) (take l.name-index l.names)
