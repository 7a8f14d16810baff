use Rattle.std.proofs.Common.{◌≡◌, ◌+◌, drop}
use Rattle.account_model.specs.LineWords.{nothing_split, with_bytes}
use Rattle.option_words.proofs.splitting.split_line.Given as goal

-- what was read and the bytes that are left come to what all bytes do
abbrev pub invariant-bytes : goal.invariant-bytes
invariant-bytes l =
    with_bytes (l.place + 1) (drop l.place l.line) l.splitting
    ≡ with_bytes 1 l.line nothing_split
