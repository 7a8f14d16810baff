use Rattle.std.proofs.Common.{subst}
use Rattle.acct_text.specs.Pieces.{AreCutAt}
use Rattle.acct_text.proofs.Cut.{cut_at-is, cut_at-only}
use Rattle.acct_text.proofs.laws.one_cut_into_pieces.Goals as goal

-- pieces of the text are the found ones, and these are pieces of the text
pub returns : goal.returns
returns c =
    λ separator text pieces.
    let are = cut_at-is separator text in
    (cut_at-only separator text pieces, λ found. subst (AreCutAt separator text) found are)
