use Rattle.aging_commands.specs.HashLines.{script_for, seen_new}
use Rattle.aging_commands.specs.declared.hash_lines.NewHash.{NewHash}
use Rattle.aging_commands.proofs.ScriptLemmas.{order-more}
use Rattle.aging_commands.proofs.chpasswd.new_hashes.Goals as goal

pub hashes-preserved : goal.hashes-preserved
hashes-preserved c = order-more
    (λ (hash : NewHash). script_for c.args.whose c.args.tables.now c.args.day (seen_new hash))
    c.args.hashes.now c.hashes.hash-index _ _ _ c.hashes-test.true c.hashes.invariant
    (c.in_ok-set_hash.ensures {u = tt})
