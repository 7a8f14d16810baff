-- Claim: after chfn the parts of the comment that no option names are as before, and the others are given
-- (`chfn-keeps-parts`). Way: the new comment is cut into the parts that it is made of (`parts-back`), as the first four
-- have no comma; and the user's record is found again with it (`found-after`).
use Rattle.std.proofs.Common.{◌≡◌, ℕ, List, [], ◌∷◌, ◌++◌, map, refl, sym, ◌∙◌, ap, subst, inl, inr}
use Rattle.std.specs.Prelude.{Option, Some, None, codes, option_map, unwrap_or, if◌then◌else◌}
use Rattle.std.proofs.lemmas.Bool.{cases_Bool}
use Rattle.std.proofs.lemmas.List.Concat.{flat_map_single}
use Rattle.acct_text.specs.declared.files.Files.{Files}
use Rattle.acct_text.specs.Lines.{lines_of}
use Rattle.acct_text.specs.Pieces.{Lacks, cut_at}
use Rattle.acct_text.proofs.Cut.{cut-one, cut-piece, cut_at-is}
use Rattle.account_model.specs.declared.records.PasswdRecord.{PasswdRecord}
use Rattle.account_model.specs.Text.{comma}
use Rattle.account_model.specs.Format.{find_named, is_named, records_of}
use Rattle.account_model.specs.Edits.{Edit, each_where}
use Rattle.account_model.specs.RecordEdits.{IsWrittenEdit}
use Rattle.account_model.specs.Records.{passwd_format}
use Rattle.account_model.specs.Tables.{table_after, table_records}
use Rattle.account_model.specs.Action.{Made}
use Rattle.account_model.specs.Request.{Request, operand}
use Rattle.account_model.specs.Users.{comment_of, find_user}
use Rattle.account_model.specs.Values.{text_value}
use Rattle.account_model.specs.Chfn.{CommentParts, chfn, comment_with, given_parts, new_comment, parts_among, parts_of}
use Rattle.account_model.specs.ChfnLaws.{ChfnKeepsParts, IsKeptOrGiven, KeepsParts}
use Rattle.account_model.proofs.BatchLaws.{outcome-made}
use Rattle.account_model.proofs.ChfnScripts.{ChfnPasses, FirstParts, chfn-lawful, chfn-passes, given-held, part-lacks, parts-held}
use Rattle.account_model.proofs.EditLines.{table-edited}
use Rattle.account_model.proofs.SameLaws.{passwd-tells}

-- ---- The parts of a comment

-- parts by their texts
abbrev parts_named : List ℕ → List ℕ → List ℕ → List ℕ → List ℕ → CommentParts
parts_named name room work home other = record {
  full_name = name;
  room = room;
  work_phone = work;
  home_phone = home;
  other = other;
}

-- a comment whose first pieces have no comma
cut-front :
    (a b c rest : List ℕ)
    → Lacks comma a
    → Lacks comma b
    → Lacks comma c
    → cut_at comma (a ++ comma ∷ (b ++ comma ∷ (c ++ comma ∷ rest)))
    ≡ a ∷ b ∷ c ∷ cut_at comma rest
cut-front a b c rest no_a no_b no_c =
    cut-piece comma a (b ++ comma ∷ (c ++ comma ∷ rest)) no_a
    ∙ ap (λ pieces. a ∷ pieces) (cut-piece comma b (c ++ comma ∷ rest) no_b)
    ∙ ap (λ pieces. a ∷ b ∷ pieces) (cut-piece comma c rest no_c)

-- a comment is cut into the parts that it is made of
parts-back :
    (name room work home other : List ℕ)
    → FirstParts (Lacks comma) (parts_named name room work home other)
    → parts_of (comment_with (parts_named name room work home other))
    ≡ parts_named name room work home other
parts-back name room work home [] lack =
    ap parts_among (cut-front name room work home lack.full_name lack.room lack.work_phone
    ∙ ap (λ pieces. name ∷ room ∷ work ∷ pieces) (cut-one comma home lack.home_phone))
parts-back name room work home (byte ∷ other) lack =
    ap parts_among (cut-front name room work (home ++ comma ∷ byte ∷ other) lack.full_name
    lack.room lack.work_phone
    ∙ ap (λ pieces. name ∷ room ∷ work ∷ pieces)
    (cut-piece comma home (byte ∷ other) lack.home_phone))
    ∙ ap (parts_named name room work home) (cut_at-is comma (byte ∷ other)).joined

-- what an option makes of a part
kept-or-given :
    (letter : List ℕ) (request : Request) (old : List ℕ)
    → IsKeptOrGiven letter request old (text_value letter request old)
kept-or-given letter request old = record {
  kept = λ none. ap (λ given. unwrap_or given old) none;
  given = λ value is. ap (λ given. unwrap_or given old) is;
}

-- and what the options make of all parts
keeps-parts :
    (request : Request) (parts : CommentParts) → KeepsParts request parts (given_parts request parts)
keeps-parts request parts = record {
  full_name = kept-or-given (codes "f") request parts.full_name;
  room = kept-or-given (codes "r") request parts.room;
  work_phone = kept-or-given (codes "w") request parts.work_phone;
  home_phone = kept-or-given (codes "h") request parts.home_phone;
  other = kept-or-given (codes "o") request parts.other;
}

-- ---- The user's record

module _ (user comment : List ℕ) where
  -- a record with the comment
  abbrev with_comment : PasswdRecord → PasswdRecord
  with_comment r = record r { comment = comment }

  -- the edit that sets it
  abbrev set_comment : Edit PasswdRecord
  set_comment = each_where (is_named passwd_format user) with_comment

  -- what becomes of a record
  abbrev set_in : PasswdRecord → PasswdRecord
  set_in r = if is_named passwd_format user r then with_comment r else r

  -- the user's record among those that have it
  found-in :
      (records : List PasswdRecord)
      → find_named passwd_format user (map set_in records)
      ≡ option_map with_comment (find_named passwd_format user records)
  found-in [] = refl
  found-in (r ∷ records) = elim (cases_Bool (is_named passwd_format user r)) [
    | inl named ↦ rw (named, named) refl
    | inr other ↦ rw (other, other) (found-in records)
  ]

  -- and in the table
  found-after :
      (bytes : Option (List ℕ))
      → IsWrittenEdit passwd_format set_comment
      → find_named passwd_format user
      (table_records passwd_format (table_after passwd_format (set_comment ∷ []) bytes))
      ≡ option_map with_comment
      (find_named passwd_format user (table_records passwd_format bytes))
  found-after None written = refl
  found-after (Some bytes) written =
      let old = records_of passwd_format (lines_of bytes)
      in ap (find_named passwd_format user)
      (table-edited passwd_format passwd-tells refl (set_comment ∷ []) bytes (written, tt)
      ∙ flat_map_single set_in old)
      ∙ found-in old

-- ---- The whole

-- the parts of the new comment
new-parts :
    (request : Request) (files : Files)
    → ChfnPasses request files
    → parts_of (new_comment request files)
    ≡ given_parts request (parts_of (comment_of (operand request) files))
new-parts request files passes =
    let old = comment_of (operand request) files
    in let new = given_parts request (parts_of old)
    in parts-back new.full_name new.room new.work_phone new.home_phone new.other
    (given-held (Lacks comma) request files (parts_of old) part-lacks passes
    (parts-held (Lacks comma) (cut_at comma old) tt (cut_at-is comma old).apart))

-- chfn keeps the parts that it doesn't set
pub chfn-keeps-parts : ChfnKeepsParts
chfn-keeps-parts request files made old outcome found =
    let is_made = outcome-made (chfn request files) files made outcome
    in let passes = chfn-passes request files is_made.passes
    in let comment = new_comment request files
    in let written = ((chfn-lawful request [] 0 files []).script is_made.passes).written.passwd.0
    in let after = found-after (operand request) comment files.passwd written
    in let old_comment : comment_of (operand request) files ≡ old.comment =
    ap (λ (one : Option PasswdRecord). unwrap_or (option_map (λ r. r.comment) one) []) found
    in (
      record old { comment = comment },
      ap (λ (one : Made). find_user (operand request) one.files) (sym is_made.makes) ∙ after
          ∙ ap (option_map (with_comment (operand request) comment)) found,
      record {
        fields = refl;
        parts = subst (λ new. KeepsParts request (parts_of old.comment) new)
            (sym (new-parts request files passes
            ∙ ap (λ text. given_parts request (parts_of text)) old_comment))
            (keeps-parts request (parts_of old.comment));
      },
    )
