-- Claim: a user has ranges by the name or by the text of the UID (`owned-either`). Way: range by range.
use Rattle.std.proofs.Common.{◌≡◌, ◌∙◌, ℕ, Bool, true, false, List, [], ◌∷◌, refl, ap}
use Rattle.std.specs.Prelude.{◌||◌, None, Some, bytes_eq}
use Rattle.std.specs.Fmt.{decimal}
use Rattle.std.specs.List.{list_any}
use Rattle.account_model.specs.declared.records.SubidRecord.{SubidRecord}
use Rattle.account_model.specs.SubidOwner.{is_owned}

-- two tests of one and of others, the first ones of both in front
or-both : (a b c d : Bool) → ((a || b) || (c || d)) ≡ ((a || c) || (b || d))
or-both true b c d = refl
or-both false true true d = refl
or-both false true false d = refl
or-both false false c d = refl

-- a range is the user's where its owner is the name, or the text of the UID
pub owned-either :
    (name : List ℕ) (uid : ℕ) (ranges : List SubidRecord)
    → list_any (is_owned name (Some uid)) ranges
    ≡ (list_any (is_owned name None) ranges || list_any (is_owned (decimal uid) None) ranges)
owned-either name uid [] = refl
owned-either name uid (r ∷ ranges) =
    let named = bytes_eq r.owner name in
    let numbered = bytes_eq r.owner (decimal uid) in
    ap (λ rest. (named || numbered) || rest) (owned-either name uid ranges)
    ∙ or-both named numbered (list_any (is_owned name None) ranges)
    (list_any (is_owned (decimal uid) None) ranges)
