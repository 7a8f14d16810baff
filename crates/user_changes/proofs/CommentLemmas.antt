-- Claim: what stands before and behind the commas of a comment, one after another, are its parts
-- (`cut-one-by-one`). Way: by how many pieces there are; what is left is its pieces, joined
-- (`left-joined`).
use Rattle.std.proofs.Common.{◌≡◌, ℕ, List, [], ◌∷◌, Bor, refl, sym}
use Rattle.std.specs.Prelude.{Option, Some, None, drop, unwrap_or}
use Rattle.std.specs.List.{join_with_byte}
use Rattle.std.specs.Option.{option_copied}
use Rattle.acct_text.proofs.Cut.{cut_at-is}
use Rattle.account_model.specs.Chfn.{parts_among}
use Rattle.account_model.specs.Faults.{field_at}
use Rattle.account_model.specs.Text.{comma}
use Rattle.user_changes.specs.Comments.{comment_pieces}

-- what is left is its pieces, joined
pub left-joined :
    (left : Option (Bor (List ℕ))) (nothing : Bor (List ℕ))
    → nothing.now ≡ []
    → (unwrap_or left nothing).now ≡ join_with_byte comma (comment_pieces (option_copied left))
left-joined None nothing empty = empty
left-joined (Some text) nothing empty = sym (cut_at-is comma text.now).joined

-- the first piece of what is left, again and again
pub cut-one-by-one :
    (pieces : List (List ℕ))
    → record {
      full_name = field_at 1 pieces;
      room = field_at 1 (drop 1 pieces);
      work_phone = field_at 1 (drop 1 (drop 1 pieces));
      home_phone = field_at 1 (drop 1 (drop 1 (drop 1 pieces)));
      other = join_with_byte comma (drop 1 (drop 1 (drop 1 (drop 1 pieces))));
    } ≡ parts_among pieces
cut-one-by-one [] = refl
cut-one-by-one (name ∷ []) = refl
cut-one-by-one (name ∷ room ∷ []) = refl
cut-one-by-one (name ∷ room ∷ work ∷ []) = refl
cut-one-by-one (name ∷ room ∷ work ∷ home ∷ rest) = refl
