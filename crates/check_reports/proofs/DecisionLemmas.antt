-- Claim: a tool that changes nothing decides as its report says (`told_decides`), and one that
-- sorts two tables lists those that differ then (`tables-sorted`), as pwck and grpck do
-- (`users_sorted`, `groups_sorted`). Way: without edits no name has multiple entries, and the files
-- stay; a sort touches no record.
use Rattle.std.proofs.Common.{◌≡◌, ◌∙◌, ◌++◌, ℕ, Bool, true, false, List, [], ◌∷◌, refl, sym, ap, ap₂}
use Rattle.std.specs.Prelude.{Option, Some, None, Ok}
use Rattle.acct_text.specs.declared.files.Files.{Files}
use Rattle.account_model.specs.declared.refusal.Refusal.{Refusal}
use Rattle.account_model.specs.declared.tool.Tool.{Tool}
use Rattle.acct_text.specs.declared.new_tables.NewTable.{NewTable}
use Rattle.acct_text.specs.ChangedTables.{changed_among, changed_bytes, changed_tables, with_new_table}
use Rattle.acct_text.specs.Contents.{Contents, same_content}
use Rattle.acct_text.specs.Files.{table_of}
use Rattle.acct_text.specs.declared.Tab.{Tab}
use Rattle.acct_text.specs.declared.Tab.TheVariants.{Passwd, Shadow, Group, Gshadow}
use Rattle.account_model.specs.Action.{changes, made_by, outcome_of, reports, multiple_in, multiple_entries}
use Rattle.account_model.specs.Edits.{Edit, Arrange, first_multiple}
use Rattle.account_model.specs.Format.{Format}
use Rattle.account_model.specs.Grpck.{grpck_sort, sorted_groups}
use Rattle.account_model.specs.Pwck.{pwck_sort, sorted_users}
use Rattle.account_model.specs.Records.{passwd_format, shadow_format, group_format, gshadow_format}
use Rattle.account_model.specs.Tables.{Script, no_edits, files_after, table_after, table_records, passwd_records, shadow_records, group_records, gshadow_records}
use Rattle.account_model.specs.Refusals.{refuse_if}
use Rattle.account_model.specs.Text.{first_some}
use Rattle.tool_answers.specs.Decisions.{decision_by, decision_of, made_output, refusal_output}
use Rattle.tool_answers.specs.declared.decision.Decision.{Decision}
use Rattle.tool_answers.specs.declared.decision.Decision.TheVariants.{Same, Refuse}
use Rattle.account_model.proofs.NoEdits.{files-stay}
use Rattle.account_model.proofs.SameLaws.{bytes-self}
use Rattle.acct_text.proofs.ChangedTablesLemmas.{changed_among-cons, with_new_table-append}
use Rattle.tool_answers.proofs.ListedTables.{added}
use Rattle.account_model.specs.declared.records.PasswdRecord.{PasswdRecord}
use Rattle.account_model.specs.declared.records.ShadowRecord.{ShadowRecord}
use Rattle.account_model.specs.declared.records.GroupRecord.{GroupRecord}
use Rattle.account_model.specs.declared.records.GshadowRecord.{GshadowRecord}
use Rattle.check_reports.specs.declared.conversion.Pair.{Pair}
use Rattle.check_reports.specs.Converted.{Converts}
use Rattle.check_reports.specs.Decided.{DecidesBy}
use Rattle.check_reports.specs.Sorted.{Sorts, place_in}

-- no edit touches a record
none-multiple : {R : Type 0} (format : Format R) (records : List R)
    → first_multiple format [] records ≡ None
none-multiple format [] = refl
none-multiple format (r ∷ rest) = none-multiple format rest

-- a table is the same as itself
same-self : (bytes : Option (List ℕ)) → same_content bytes bytes ≡ true
same-self None = refl
same-self (Some bytes) = bytes-self bytes

-- files don't differ from themselves
none-changed : (files : Files) → changed_tables (table_of files) (table_of files) ≡ []
none-changed files =
    rw (
      same-self files.passwd,
      same-self files.shadow,
      same-self files.group,
      same-self files.gshadow,
      same-self files.subuid,
      same-self files.subgid,
    ) refl

-- without edits nothing is multiple
pub none-multiple-at-all : (files : Files) → multiple_entries no_edits files ≡ None
none-multiple-at-all files =
    rw (
      none-multiple passwd_format (passwd_records files),
      none-multiple shadow_format (shadow_records files),
      none-multiple group_format (group_records files),
      none-multiple gshadow_format (gshadow_records files),
    ) refl

module _ (tool : Tool) (refusals : List (Option Refusal)) (status : ℕ) (out : List ℕ)
    (files : Files) where
  -- the outcome of a report that isn't refused
  told-outcome :
      first_some refusals ≡ None
      → outcome_of (reports refusals status out) files
      ≡ Ok (made_by (reports refusals status out) files)
  told-outcome unrefused = rw (unrefused, outcome_of) rw (none-multiple-at-all files) refl

  -- what it made keeps the files
  made-same : changed_tables (table_of files) (table_of (files_after no_edits files)) ≡ []
  made-same =
      ap (λ (new : Files). changed_tables (table_of files) (table_of new)) (files-stay files)
      ∙ none-changed files

  -- the report decides
  pub told_decides :
      (decision : Decision)
      → decision ≡ Same (record { status = status; out = out; err = [] })
      → first_some refusals ≡ None
      → DecidesBy tool (reports refusals status out) files decision
  told_decides decision is unrefused =
      is
      ∙ sym (ap (decision_of tool files) (told-outcome unrefused)
      ∙ ap (λ (tables : List NewTable). decision_by tables
      (made_output tool (made_by (reports refusals status out) files))) made-same)

-- a sort touches no record, so names that stand twice don't refuse it
pub sort-multiple :
    {R : Type 0} (format : Format R) (key : R → ℕ) (records : List R)
    → first_multiple format (Arrange key ∷ []) records ≡ None
sort-multiple format key [] = refl
sort-multiple format key (r ∷ rest) = sort-multiple format key rest

-- a table without edits is the same
unsorted :
    (files : Files) (part : Files → Option (List ℕ))
    → same_content (part files) (part (files_after no_edits files)) ≡ true
unsorted files part =
    ap (same_content (part files)) (ap part (files-stay files)) ∙ same-self (part files)

-- pwck sorts passwd and shadow
pub users_sorted :
    (files : Files)
    → Sorts passwd_format shadow_format (λ user. user.uid) Passwd Shadow (pwck_sort files) files
users_sorted files = record {
  sorts_main = refl;
  sorts_hashes = refl;
  leaves_others = rw (
    unsorted files (λ f. f.group),
    unsorted files (λ f. f.gshadow),
    unsorted files (λ f. f.subuid),
    unsorted files (λ f. f.subgid),
  ) refl;
  touches_none = rw (
    sort-multiple passwd_format (λ user. user.uid) (passwd_records files),
    sort-multiple shadow_format (place_in passwd_format (sorted_users files) shadow_format)
        (shadow_records files),
    none-multiple group_format (group_records files),
    none-multiple gshadow_format (gshadow_records files),
  ) refl;
}

-- and grpck group and gshadow
pub groups_sorted :
    (files : Files)
    → Sorts group_format gshadow_format (λ group. group.gid) Group Gshadow (grpck_sort files) files
groups_sorted files = record {
  sorts_main = refl;
  sorts_hashes = refl;
  leaves_others = rw (
    unsorted files (λ f. f.passwd),
    unsorted files (λ f. f.shadow),
    unsorted files (λ f. f.subuid),
    unsorted files (λ f. f.subgid),
  ) refl;
  touches_none = rw (
    none-multiple passwd_format (passwd_records files),
    none-multiple shadow_format (shadow_records files),
    sort-multiple group_format (λ group. group.gid) (group_records files),
    sort-multiple gshadow_format (place_in group_format (sorted_groups files) gshadow_format)
        (gshadow_records files),
  ) refl;
}

-- one table behind another is listed as both are at once
pub both-listed :
    (old new : Contents) (first second : Tab)
    → added old new first ++ added old new second
    ≡ changed_among (first ∷ second ∷ []) old new
both-listed old new first second =
    with_new_table-append first (changed_bytes (old first) (new first)) (added old new second)
    ∙ ap (with_new_table first (changed_bytes (old first) (new first)))
    (sym (changed_among-cons second [] old new))
    ∙ sym (changed_among-cons first (second ∷ []) old new)

module _ {M R : Type 0} (main_format : Format M) (format : Format R) (key : M → ℕ)
    (main hashes : Tab) (script : Script) (files : Files)
    (is : Sorts main_format format key main hashes script files) where
  -- the sorted tables are all that differ
  pub tables-sorted :
      (main_file hashes_file sorted alike : Option (List ℕ)) (none one both : List NewTable)
      → main_file ≡ table_of files main
      → hashes_file ≡ table_of files hashes
      → sorted ≡ table_after main_format (Arrange key ∷ []) main_file
      → alike ≡ table_after format
      (Arrange (place_in main_format (table_records main_format sorted) format) ∷ []) hashes_file
      → none ≡ []
      → one ≡ none ++ with_new_table main (changed_bytes main_file sorted) []
      → both ≡ one ++ with_new_table hashes (changed_bytes hashes_file alike) []
      → both ≡ changed_tables (table_of files) (table_of (files_after script files))
  tables-sorted main_file hashes_file sorted alike none one both of_main of_hashes sorted_is
      alike_is none_is one_is both_is =
      let old = table_of files in
      let new = table_of (files_after script files) in
      let now : sorted ≡ new main =
      sorted_is ∙ ap (table_after main_format (Arrange key ∷ [])) of_main ∙ sym is.sorts_main in
      let like : alike ≡ new hashes =
      alike_is
      ∙ ap₂ (λ sorted file. table_after format
      (Arrange (place_in main_format (table_records main_format sorted) format) ∷ []) file)
      now of_hashes
      ∙ sym is.sorts_hashes in
      let first : one ≡ added old new main =
      one_is ∙ ap₂ (λ none content. none ++ content) none_is
      (ap₂ (λ file content. with_new_table main (changed_bytes file content) []) of_main now) in
      both_is
      ∙ ap₂ (λ one content. one ++ content) first
      (ap₂ (λ file content. with_new_table hashes (changed_bytes file content) []) of_hashes like)
      ∙ both-listed old new main hashes
      ∙ is.leaves_others

-- two tables that differ are all that do, where the script leaves the others
pub pair-listed :
    (script : Script) (files : Files) (main hashes : Tab)
    (main_file hashes_file new_main new_hashes : Option (List ℕ)) (none one both : List NewTable)
    → main_file ≡ table_of files main
    → hashes_file ≡ table_of files hashes
    → table_of (files_after script files) main ≡ new_main
    → table_of (files_after script files) hashes ≡ new_hashes
    → changed_among (main ∷ hashes ∷ []) (table_of files) (table_of (files_after script files))
    ≡ changed_tables (table_of files) (table_of (files_after script files))
    → none ≡ []
    → one ≡ none ++ with_new_table main (changed_bytes main_file new_main) []
    → both ≡ one ++ with_new_table hashes (changed_bytes hashes_file new_hashes) []
    → both ≡ changed_tables (table_of files) (table_of (files_after script files))
pair-listed script files main hashes main_file hashes_file new_main new_hashes none one both
    of_main of_hashes main_is hashes_is others none_is one_is both_is =
    let old = table_of files in
    let new = table_of (files_after script files) in
    let first : one ≡ added old new main =
    one_is ∙ ap₂ (λ none content. none ++ content) none_is
    (ap₂ (λ file content. with_new_table main (changed_bytes file content) []) of_main
    (sym main_is))
    in
    both_is
    ∙ ap₂ (λ one content. one ++ content) first
    (ap₂ (λ file content. with_new_table hashes (changed_bytes file content) []) of_hashes
    (sym hashes_is))
    ∙ both-listed old new main hashes
    ∙ others

module _ (tool : Tool) (script : Script) (files : Files) (test : Bool) (absent : Refusal)
    (decision : Decision) where
  -- and else the script decides
  pub script-decides :
      test ≡ false
      → DecidesBy tool (changes [] script) files decision
      → DecidesBy tool (changes (refuse_if test absent ∷ []) script) files decision
  script-decides stands is = is ∙ (rw stands refl)

-- a touched name of which the table has several refuses
pub multiple-decides :
    (tool : Tool) (script : Script) (files : Files) (decision : Decision) (found : Refusal)
    → multiple_entries script files ≡ Some found
    → decision ≡ Refuse found (refusal_output tool found)
    → DecidesBy tool (changes [] script) files decision
multiple-decides tool script files decision found multiple is =
    is ∙ (rw (outcome_of, multiple) refl)

-- the first of two is that of them and nothing behind
first-of-two :
    (one two : Option Refusal)
    → first_some (one ∷ two ∷ None ∷ None ∷ []) ≡ first_some (one ∷ two ∷ [])
first-of-two None None = refl
first-of-two None (Some two) = refl
first-of-two (Some one) two = refl

-- edits of users alone convert them
pub users-convert :
    (main_edits : List (Edit PasswdRecord)) (edits : List (Edit ShadowRecord)) (pair : Pair)
    (files : Files)
    → pair.main_tab ≡ Passwd
    → pair.hashes_tab ≡ Shadow
    → pair.main.now ≡ files.passwd
    → pair.hashes.now ≡ files.shadow
    → Converts passwd_format shadow_format main_edits edits pair
    (record no_edits { passwd = main_edits; shadow = edits }) files
users-convert main_edits edits pair files main_tab hashes_tab main hashes =
    rw (main_tab, hashes_tab, main, hashes) (record {
      of_files = record { main = refl; hashes = refl };
      main = refl;
      hashes = refl;
      others = rw (
        unsorted files (λ f. f.group),
        unsorted files (λ f. f.gshadow),
        unsorted files (λ f. f.subuid),
        unsorted files (λ f. f.subgid),
      ) refl;
      multiple = rw (
        none-multiple group_format (group_records files),
        none-multiple gshadow_format (gshadow_records files),
      ) (first-of-two (multiple_in Passwd passwd_format main_edits (passwd_records files))
          (multiple_in Shadow shadow_format edits (shadow_records files)));
    })

-- and those of groups alone groups
pub groups-convert :
    (main_edits : List (Edit GroupRecord)) (edits : List (Edit GshadowRecord)) (pair : Pair)
    (files : Files)
    → pair.main_tab ≡ Group
    → pair.hashes_tab ≡ Gshadow
    → pair.main.now ≡ files.group
    → pair.hashes.now ≡ files.gshadow
    → Converts group_format gshadow_format main_edits edits pair
    (record no_edits { group = main_edits; gshadow = edits }) files
groups-convert main_edits edits pair files main_tab hashes_tab main hashes =
    rw (main_tab, hashes_tab, main, hashes) (record {
      of_files = record { main = refl; hashes = refl };
      main = refl;
      hashes = refl;
      others = rw (
        unsorted files (λ f. f.passwd),
        unsorted files (λ f. f.shadow),
        unsorted files (λ f. f.subuid),
        unsorted files (λ f. f.subgid),
      ) refl;
      multiple = rw (
        none-multiple passwd_format (passwd_records files),
        none-multiple shadow_format (shadow_records files),
      ) refl;
    })
