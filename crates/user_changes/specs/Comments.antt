-- What the code has of a comment (chfn(1)).
use Rattle.std.specs.Prelude.{ℕ, List, [], Option, Some, None}
use Rattle.acct_text.specs.Pieces.{cut_at}
use Rattle.account_model.specs.Chfn.{CommentParts}
use Rattle.account_model.specs.Text.{comma}
use Rattle.user_changes.specs.declared.comment.Parts.{Parts}

-- the parts as account_model has them
abbrev pub seen_parts : Parts → CommentParts
seen_parts parts = record {
  full_name = parts.full_name.now;
  room = parts.room.now;
  work_phone = parts.work_phone.now;
  home_phone = parts.home_phone.now;
  other = parts.other.now;
}

-- the pieces of what is left of a comment, and none where nothing is
abbrev pub comment_pieces : Option (List ℕ) → List (List ℕ)
comment_pieces None = []
comment_pieces (Some text) = cut_at comma text
