-- What a script keeps apart, table by table (`KeepsApart`). A script that gives no ID keeps all (`kept-apart`).
use Rattle.std.proofs.Common.{◌≡◌, ℕ, ◌+◌, ◌-◌, ◌≤◌, max, Bool, false, ◌&&◌, List, ap, sym, subst, arith}
use Rattle.std.specs.Prelude.{⊤, Option, Some, None, count_by, nat_le, ◌==◌}
use Rattle.std.specs.List.{AllByRecursion}
use Rattle.acct_text.specs.declared.files.Files.{Files}
use Rattle.account_model.specs.declared.tool.Tool.{Tool}
use Rattle.account_model.specs.declared.records.PasswdRecord.{PasswdRecord}
use Rattle.account_model.specs.declared.records.GroupRecord.{GroupRecord}
use Rattle.account_model.specs.declared.records.SubidRecord.{SubidRecord}
use Rattle.account_model.specs.Format.{Format}
use Rattle.account_model.specs.Edits.{Edit}
use Rattle.account_model.specs.Records.{passwd_format, group_format, subid_format}
use Rattle.account_model.specs.RecordEdits.{IsWrittenEdit}
use Rattle.account_model.specs.Request.{Request}
use Rattle.account_model.specs.Tables.{Script, table_records, table_after}
use Rattle.account_model.specs.LineLaws.{EditsAreOfRecords}
use Rattle.account_model.proofs.KeptIds.{KeepIds, numbers_of}
use Rattle.ids_apart.specs.Holders.{range_has, shares_uid_by, shares_gid_by}
use Rattle.ids_apart.proofs.HolderEdits.{AddsNone, EditsMeetNoMore, kept-add-none, none-meets}
use Rattle.ids_apart.proofs.Keys.{has_key}

-- the UID of a user
abbrev pub uid_key : PasswdRecord → ℕ
uid_key user = user.uid

-- the GID of a group
abbrev pub gid_key : GroupRecord → ℕ
gid_key group = group.gid

-- of a table that stands, no more records pass after the edits, but one where none did
abbrev pub TableStays :
    {X : Type 0} → Format X → (X → Bool) → Option (List ℕ) → List (Edit X) → Type 0
TableStays format test None edits = ⊤
TableStays format test (Some bytes) edits =
    EditsMeetNoMore format test (table_records format (Some bytes)) edits

-- no UID comes to one more user and no GID to one more group, but where the tool is asked for it with `-o`, and no number
-- to one more range of subordinate IDs that is in one
pub record KeepsApart (tool : Tool) (request : Request) (files : Files) (script : Script)
    : Type 0 where
  pub uids : (uid : ℕ) → shares_uid_by tool uid request ≡ false
      → TableStays passwd_format (has_key uid_key uid) files.passwd script.passwd
  pub gids : (gid : ℕ) → shares_gid_by tool gid request ≡ false
      → TableStays group_format (has_key gid_key gid) files.group script.group
  pub subuids : (number : ℕ)
      → TableStays subid_format (range_has number) files.subuid script.subuid
  pub subgids : (number : ℕ)
      → TableStays subid_format (range_has number) files.subgid script.subgid

-- a table, whether it stands or not
pub stays-table :
    {X : Type 0} (format : Format X) (test : X → Bool) (bytes : Option (List ℕ))
    (edits : List (Edit X))
    → EditsMeetNoMore format test (table_records format bytes) edits
    → TableStays format test bytes edits
stays-table format test None edits stay = tt
stays-table format test (Some bytes) edits stay = stay

-- of the records of a table no more pass after its edits, but one where none did
pub table-meets :
    {X : Type 0} (format : Format X) (test : X → Bool) (bytes : Option (List ℕ))
    (edits : List (Edit X))
    → EditsAreOfRecords format
    → AllByRecursion (IsWrittenEdit format) edits
    → TableStays format test bytes edits
    → count_by test (table_records format (table_after format edits bytes))
    ≤ max 1 (count_by test (table_records format bytes))
table-meets format test None edits edited written stays = omega arith
table-meets {X} format test (Some bytes) edits edited written stays =
    subst (λ (xs : List X). count_by test xs
    ≤ max 1 (count_by test (table_records format (Some bytes))))
    (sym (edited edits bytes written)) stays

-- ---- Edits that add none

-- a table whose edits add none
pub few-table :
    {X : Type 0} (format : Format X) (test : X → Bool) (bytes : Option (List ℕ))
    (edits : List (Edit X))
    → AllByRecursion (AddsNone format test) edits
    → TableStays format test bytes edits
few-table format test bytes edits add =
    stays-table format test bytes edits
    (none-meets format test edits add (table_records format bytes))

-- ranges of the same numbers have the same
same-numbers :
    (number : ℕ) (range other : SubidRecord)
    → numbers_of range ≡ numbers_of other
    → range_has number range ≡ range_has number other
same-numbers number range other same = ap (λ (numbers : ℕ × ℕ).
    nat_le numbers.0 number && nat_le number (numbers.0 + numbers.1 - 1)) same

-- a script that gives no ID keeps all apart, whatever it is asked for
pub kept-apart :
    {tool : Tool} {request : Request} {files : Files} {script : Script}
    → KeepIds script
    → KeepsApart tool request files script
kept-apart {files = files} {script = script} keep = record {
  uids = λ uid shares. few-table passwd_format (has_key uid_key uid) files.passwd script.passwd
      (kept-add-none passwd_format (has_key uid_key uid) uid_key
      (λ user other same. ap (λ id. id == uid) same) script.passwd keep.passwd);
  gids = λ gid shares. few-table group_format (has_key gid_key gid) files.group script.group
      (kept-add-none group_format (has_key gid_key gid) gid_key
      (λ group other same. ap (λ id. id == gid) same) script.group keep.group);
  subuids = λ n. few-table subid_format (range_has n) files.subuid script.subuid
      (kept-add-none subid_format (range_has n) numbers_of (same-numbers n) script.subuid
      keep.subuid);
  subgids = λ n. few-table subid_format (range_has n) files.subgid script.subgid
      (kept-add-none subid_format (range_has n) numbers_of (same-numbers n) script.subgid
      keep.subgid);
}
