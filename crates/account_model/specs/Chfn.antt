-- chfn LOGIN (chfn(1)): changes the parts of a user's comment.
use Rattle.std.specs.Prelude.{ℕ, List, [], ◌∷◌, codes, drop, Option, if◌then◌else◌}
use Rattle.std.specs.List.{join_with_byte}
use Rattle.acct_text.specs.declared.files.Files.{Files}
use Rattle.acct_text.specs.Bytes.{is_empty}
use Rattle.acct_text.specs.Pieces.{cut_at}
use Rattle.account_model.specs.declared.refusal.Refusal.{Refusal}
use Rattle.account_model.specs.Text.{comma}
use Rattle.account_model.specs.Faults.{field_at}
use Rattle.account_model.specs.Format.{is_named}
use Rattle.account_model.specs.Edits.{each_where}
use Rattle.account_model.specs.Records.{passwd_format}
use Rattle.account_model.specs.Tables.{Script, no_edits}
use Rattle.account_model.specs.Values.{is_comment_part, is_field, text_value}
use Rattle.account_model.specs.Request.{Request, operand}
use Rattle.account_model.specs.Refusals.{bad_value, missing_user}
use Rattle.account_model.specs.Action.{Action, changes}
use Rattle.account_model.specs.Users.{comment_of}

-- ---- The parts of a comment

-- what the commas of a comment part; commas of the last part don't count
pub record CommentParts : Type 0 where
  pub full_name : List ℕ
  pub room : List ℕ
  pub work_phone : List ℕ
  pub home_phone : List ℕ
  pub other : List ℕ

-- the parts among the pieces between all commas: the first four, and what the others are together; one that is
-- missing is empty
abbrev pub parts_among : List (List ℕ) → CommentParts
parts_among pieces = record {
  full_name = field_at 1 pieces;
  room = field_at 2 pieces;
  work_phone = field_at 3 pieces;
  home_phone = field_at 4 pieces;
  other = join_with_byte comma (drop 4 pieces);
}

-- the parts of a comment
abbrev pub parts_of : List ℕ → CommentParts
parts_of comment = parts_among (cut_at comma comment)

-- the comment of such parts, which has the last one only where that isn't empty
abbrev pub comment_with : CommentParts → List ℕ
comment_with parts = join_with_byte comma
    (parts.full_name ∷ parts.room ∷ parts.work_phone ∷ parts.home_phone
    ∷ (if is_empty parts.other then [] else parts.other ∷ []))

-- ---- The change

-- `-f`, `-r`, `-w`, `-h` and `-o` give the parts
abbrev pub given_parts : Request → CommentParts → CommentParts
given_parts request parts = record {
  full_name = text_value (codes "f") request parts.full_name;
  room = text_value (codes "r") request parts.room;
  work_phone = text_value (codes "w") request parts.work_phone;
  home_phone = text_value (codes "h") request parts.home_phone;
  other = text_value (codes "o") request parts.other;
}

-- the new comment of the user
abbrev pub new_comment : Request → Files → List ℕ
new_comment request files =
    comment_with (given_parts request (parts_of (comment_of (operand request) files)))

-- the edit of the comment
abbrev pub chfn_script : Request → Files → Script
chfn_script request files = record no_edits {
  passwd = each_where (is_named passwd_format (operand request))
      (λ r. record r { comment = new_comment request files }) ∷ [];
}

-- in the order in which they are tested
abbrev pub chfn_refusals : Request → Files → List (Option Refusal)
chfn_refusals request files =
    bad_value (codes "f") is_comment_part request
    ∷ bad_value (codes "r") is_comment_part request
    ∷ bad_value (codes "w") is_comment_part request
    ∷ bad_value (codes "h") is_comment_part request
    ∷ bad_value (codes "o") is_field request
    ∷ missing_user (operand request) files
    ∷ []

-- what chfn does, by the tables
abbrev pub chfn : Request → Files → Action
chfn request files = changes (chfn_refusals request files) (chfn_script request files)
