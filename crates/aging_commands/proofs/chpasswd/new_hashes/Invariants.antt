use Rattle.std.proofs.Common.{◌≡◌, map, take}
use Rattle.account_model.specs.Tables.{in_order}
use Rattle.carried_tables.specs.Scripts.{seen_script}
use Rattle.aging_commands.specs.HashLines.{script_for, seen_new}
use Rattle.aging_commands.proofs.chpasswd.new_hashes.Given as goal

-- the script so far has the edits of the lines so far
abbrev pub invariant-hashes : goal.invariant-hashes
invariant-hashes l = seen_script l.script
    ≡ in_order
    (map (λ hash. script_for l.whose l.tables l.day (seen_new hash)) (take l.hash-index l.hashes))
