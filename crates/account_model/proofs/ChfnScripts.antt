-- chfn and chsh are lawful: `chfn-lawful`, `chsh-lawful`. Way: the pieces of a field can stand in fields, and so can the
-- values that pass their tests (`parts-held`, `given-held`); what joins them is a field again (`comment-field`).
use Rattle.std.proofs.Common.{◌≡◌, ℕ, zero, suc, Bool, true, false, List, [], ◌∷◌, refl}
use Rattle.std.specs.Prelude.{◌&&◌, Option, Some, None, codes, drop, not, option_map, slice_get, unwrap_or, if◌then◌else◌}
use Rattle.std.specs.List.{AllByRecursion, join_with_byte}
use Rattle.std.proofs.lemmas.Bool.{and_parts, not-true}
use Rattle.acct_text.specs.declared.files.Files.{Files}
use Rattle.acct_text.specs.Bytes.{colon, is_empty, newline}
use Rattle.acct_text.specs.Pieces.{Lacks, cut_at}
use Rattle.acct_text.proofs.Cut.{cut_at-is}
use Rattle.account_model.specs.declared.records.PasswdRecord.{PasswdRecord}
use Rattle.account_model.specs.declared.tool.Tool.TheVariants.{Chfn, Chsh}
use Rattle.account_model.specs.Text.{comma, first_some, has_byte}
use Rattle.account_model.specs.Values.{is_comment_part, is_field, is_shell, text_value}
use Rattle.account_model.specs.Request.{Request, operand}
use Rattle.account_model.specs.Refusals.{bad_value, missing_user}
use Rattle.account_model.specs.Users.{comment_of, find_user}
use Rattle.account_model.specs.Written.{IsField}
use Rattle.account_model.specs.NamedLines.{named_by}
use Rattle.account_model.specs.Chfn.{CommentParts, chfn_refusals, comment_with, given_parts, new_comment, parts_among, parts_of}
use Rattle.account_model.proofs.DeedLaws.{first-none}
use Rattle.account_model.proofs.FieldFacts.{empty-field, is_field-is, is_shell-is, lacks-byte}
use Rattle.account_model.proofs.HeldLaws.{list-field}
use Rattle.account_model.proofs.LawfulParts.{passwd-lawful}
use Rattle.account_model.proofs.LawfulTools.{LawfulTool, quiet-act}
use Rattle.account_model.proofs.NamedParts.{first-has}
use Rattle.account_model.proofs.RefusalFacts.{text-kept, user-held}
use Rattle.account_model.proofs.WrittenLaws.{lacks-join}

-- ---- The values

-- the refusals of the values, and of the user
pub record ChfnPasses (request : Request) (files : Files) : Type 0 where
  pub full_name : bad_value (codes "f") is_comment_part request ≡ None
  pub room : bad_value (codes "r") is_comment_part request ≡ None
  pub work_phone : bad_value (codes "w") is_comment_part request ≡ None
  pub home_phone : bad_value (codes "h") is_comment_part request ≡ None
  pub other : bad_value (codes "o") is_field request ≡ None
  pub there : missing_user (operand request) files ≡ None

-- none of them
pub chfn-passes :
    (request : Request) (files : Files)
    → first_some (chfn_refusals request files) ≡ None
    → ChfnPasses request files
chfn-passes request files none =
    let name = first-none (bad_value (codes "f") is_comment_part request) _ none
    in let room = first-none (bad_value (codes "r") is_comment_part request) _ name.1
    in let work = first-none (bad_value (codes "w") is_comment_part request) _ room.1
    in let home = first-none (bad_value (codes "h") is_comment_part request) _ work.1
    in let other = first-none (bad_value (codes "o") is_field request) _ home.1
    in record {
      full_name = name.0;
      room = room.0;
      work_phone = work.0;
      home_phone = home.0;
      other = other.0;
      there = (first-none (missing_user (operand request) files) [] other.1).0;
    }

-- a part that passes is a field, and has no comma
pub part-field : (text : List ℕ) → is_comment_part text ≡ true → IsField text
part-field text is = is_field-is text (and_parts (is_field text) (not (has_byte comma text))
    (and_parts (is_field text && not (has_byte comma text)) _ is).0).0

pub part-lacks : (text : List ℕ) → is_comment_part text ≡ true → Lacks comma text
part-lacks text is =
    lacks-byte comma text (not-true (has_byte comma text)
    (and_parts (is_field text) (not (has_byte comma text))
    (and_parts (is_field text && not (has_byte comma text)) _ is).0).1)

-- ---- The first four parts

-- what holds of each of them
pub record FirstParts (P : List ℕ → Type 0) (parts : CommentParts) : Type 0 where
  pub full_name : P parts.full_name
  pub room : P parts.room
  pub work_phone : P parts.work_phone
  pub home_phone : P parts.home_phone

-- what holds of all pieces and of nothing holds of the piece at a place
piece-held :
    (P : List ℕ → Type 0) (place : ℕ) (pieces : List (List ℕ))
    → P []
    → AllByRecursion P pieces
    → P (unwrap_or (slice_get pieces place) [])
piece-held P place [] empty all = empty
piece-held P zero (piece ∷ pieces) empty all = all.0
piece-held P (suc place) (piece ∷ pieces) empty all = piece-held P place pieces empty all.1

-- and so of the first four parts
pub parts-held :
    (P : List ℕ → Type 0) (pieces : List (List ℕ))
    → P []
    → AllByRecursion P pieces
    → FirstParts P (parts_among pieces)
parts-held P pieces empty all = record {
  full_name = piece-held P 0 pieces empty all;
  room = piece-held P 1 pieces empty all;
  work_phone = piece-held P 2 pieces empty all;
  home_phone = piece-held P 3 pieces empty all;
}

-- and still where options give some of them
pub given-held :
    (P : List ℕ → Type 0) (request : Request) (files : Files) (parts : CommentParts)
    → ((text : List ℕ) → is_comment_part text ≡ true → P text)
    → ChfnPasses request files
    → FirstParts P parts
    → FirstParts P (given_parts request parts)
given-held P request files parts good passes old = record {
  full_name = text-kept P (codes "f") is_comment_part request parts.full_name good
      passes.full_name old.full_name;
  room = text-kept P (codes "r") is_comment_part request parts.room good passes.room old.room;
  work_phone = text-kept P (codes "w") is_comment_part request parts.work_phone good
      passes.work_phone old.work_phone;
  home_phone = text-kept P (codes "h") is_comment_part request parts.home_phone good
      passes.home_phone old.home_phone;
}

-- ---- The comment

-- fields with commas between them are a field
joined-field :
    (pieces : List (List ℕ)) → AllByRecursion IsField pieces → IsField (join_with_byte comma pieces)
joined-field pieces all = record {
  no_colon = lacks-join colon comma (λ e. cc) pieces (each pieces all).0;
  no_newline = lacks-join newline comma (λ e. cc) pieces (each pieces all).1;
}
  where
    each :
        (texts : List (List ℕ))
        → AllByRecursion IsField texts
        → AllByRecursion (Lacks colon) texts × AllByRecursion (Lacks newline) texts
    each [] all = (tt, tt)
    each (text ∷ texts) all =
        let later = each texts all.1
        in ((all.0.no_colon, later.0), (all.0.no_newline, later.1))

-- and so are those behind some of them
drop-held :
    (P : List ℕ → Type 0) (count : ℕ) (pieces : List (List ℕ))
    → AllByRecursion P pieces
    → AllByRecursion P (drop count pieces)
drop-held P zero pieces all = all
drop-held P (suc count) [] all = tt
drop-held P (suc count) (piece ∷ pieces) all = drop-held P count pieces all.1

-- parts that are fields make one
comment-with-field :
    (parts : CommentParts)
    → FirstParts IsField parts
    → IsField parts.other
    → IsField (comment_with parts)
comment-with-field parts first other =
    joined-field (parts.full_name ∷ parts.room ∷ parts.work_phone ∷ parts.home_phone
    ∷ (if is_empty parts.other then [] else parts.other ∷ [])) (
      first.full_name,
      (
        first.room,
        (
          first.work_phone,
          (
            first.home_phone,
            last (is_empty parts.other),
          ),
        ),
      ),
    )
  where
    last : (b : Bool) → AllByRecursion IsField (if b then [] else parts.other ∷ [])
    last true = tt
    last false = (other, tt)

-- the old comment can stand in a line
comment-held :
    (user : List ℕ) (files : Files) (found : Option PasswdRecord)
    → find_user user files ≡ found
    → IsField (unwrap_or (option_map (λ one. one.comment) found) [])
comment-held user files None is = empty-field
comment-held user files (Some one) is = (user-held user files one is).comment

-- and so can the new one
comment-field :
    (request : Request) (files : Files)
    → ChfnPasses request files
    → IsField (new_comment request files)
comment-field request files passes =
    let old = comment_of (operand request) files
    in let pieces = list-field old (cut_at comma old) (cut_at-is comma old)
    (comment-held (operand request) files (find_user (operand request) files) refl)
    in comment-with-field (given_parts request (parts_of old))
    (given-held IsField request files (parts_of old) part-field passes
    (parts-held IsField (cut_at comma old) empty-field pieces))
    (text-kept IsField (codes "o") is_field request (parts_of old).other is_field-is passes.other
    (joined-field _ (drop-held IsField 4 (cut_at comma old) pieces)))

-- ---- The tools

-- chfn sets a comment that can stand in a line
pub chfn-lawful : LawfulTool Chfn
chfn-lawful request input day files settings = quiet-act refl refl refl (λ none.
    let comment = comment-field request files (chfn-passes request files none)
    in passwd-lawful (named_by Chfn request [] files) (operand request)
    (first-has (operand request) []) (λ r. record r { comment = new_comment request files })
    (λ r is. record {
      name = is.name;
      password = is.password;
      uid = is.uid;
      gid = is.gid;
      comment = comment;
      home = is.home;
      shell = is.shell;
    }) (λ r. refl))

-- chsh sets a tested shell
pub chsh-lawful : LawfulTool Chsh
chsh-lawful request input day files settings = quiet-act refl refl refl (λ none.
    let good = (first-none (bad_value (codes "s") is_shell request) _ none).0
    in passwd-lawful (named_by Chsh request [] files) (operand request)
    (first-has (operand request) [])
    (λ r. record r { shell = text_value (codes "s") request r.shell })
    (λ r is. record {
      name = is.name;
      password = is.password;
      uid = is.uid;
      gid = is.gid;
      comment = is.comment;
      home = is.home;
      shell = text-kept IsField (codes "s") is_shell request r.shell is_shell-is good is.shell;
    }) (λ r. refl))
