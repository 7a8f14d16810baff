use Rattle.std.proofs.Common.{◌∙◌, ap, get_or, sym, take}
use Rattle.std.proofs.lemmas.List.{take_more}
use Rattle.acct_tables.specs.NameHashes.{name_hash, next_hash}
use Rattle.acct_tables.proofs.HashedNames.{hash-more, hash-none}
use Rattle.acct_tables.proofs.name_hashes.name_hash.Goals as goal

pub bytes-init : goal.bytes-init
bytes-init c = hash-none

pub bytes-preserved : goal.bytes-preserved
bytes-preserved c =
    let name = c.args.name.now in
    let place = c.bytes.byte-index in
    let byte = get_or name place 0 in
    c.next_hash-hash.ensures
    ∙ ap (λ hash. next_hash hash byte) c.bytes.invariant
    ∙ sym (hash-more 14695981039346656037 (take place name) byte)
    ∙ ap name_hash (sym (take_more name place 0 c.bytes-test.true))
