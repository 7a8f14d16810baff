-- Claim: an intent that reads has at most as many bytes as a read of it gives (`readable-within`).
use Rattle.std.proofs.Common.{ap, ◌≤◌, length, arith}
use Rattle.acct_text.specs.Bytes.{Bytes}
use Rattle.acct_outside.specs.Names.{intent_limit}
use Rattle.intent_file.specs.Intent.{Intended, ReadsIntent}
use Rattle.intent_file.proofs.SizeLemmas.{text-most}

-- the claim
pub readable-within : (bytes : Bytes) (intent : Intended) → ReadsIntent bytes intent →
    length bytes ≤ intent_limit
readable-within bytes intent reads =
    let size = ap length reads.text in
    let most = text-most intent reads.allowed in
    omega (arith, size, most)
