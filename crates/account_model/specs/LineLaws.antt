-- The laws of lines, records and edits that other crates rely on.
use Rattle.std.specs.List.{AllByRecursion}
use Rattle.account_model.specs.Format.{Format}
use Rattle.account_model.specs.Edits.{Edit, edited_by, first_multiple}
use Rattle.account_model.specs.RecordEdits.{other_texts, IsWrittenEdit, records_edited}
use Rattle.account_model.specs.Tables.{no_edits, files_after, table_records, table_after}
use Rattle.account_model.specs.Faults.{passwd_fault, shadow_fault, group_fault, gshadow_fault, subid_fault}
use Rattle.std.specs.Prelude.{is_some, is_none, fold, ◌≡◌, ◌↔◌, ℕ, List, [], Some}
use Rattle.account_model.specs.declared.records.PasswdRecord.{PasswdRecord}
use Rattle.account_model.specs.declared.records.ShadowRecord.{ShadowRecord}
use Rattle.account_model.specs.declared.records.GroupRecord.{GroupRecord}
use Rattle.account_model.specs.declared.records.GshadowRecord.{GshadowRecord}
use Rattle.account_model.specs.declared.records.SubidRecord.{SubidRecord}
use Rattle.acct_text.specs.declared.files.Files.{Files}
use Rattle.acct_text.specs.Lines.{Line, lines_of, file_bytes, texts_of}
use Rattle.account_model.specs.Records.{passwd_format, shadow_format, group_format, gshadow_format, subid_format}
use Rattle.account_model.specs.Reads.{ReadsPasswd, ReadsShadow, ReadsGroup, ReadsGshadow, ReadsSubid}
use Rattle.account_model.specs.Written.{IsWritten, IsPasswd, IsShadow, IsGroup, IsGshadow, IsSubid}
use Rattle.account_model.specs.TouchedLines.{first_met, KeepsOrder, AreAmong, untouched_texts}

-- a text is at most one record of a table, and the format's reader computes it
pub record RecordsAreFound : Type 0 where
  pub passwd : (text : List ℕ) (r : PasswdRecord)
      → ReadsPasswd text r ↔ (passwd_format.read text ≡ Some r)
  pub shadow : (text : List ℕ) (r : ShadowRecord)
      → ReadsShadow text r ↔ (shadow_format.read text ≡ Some r)
  pub group : (text : List ℕ) (r : GroupRecord)
      → ReadsGroup text r ↔ (group_format.read text ≡ Some r)
  pub gshadow : (text : List ℕ) (r : GshadowRecord)
      → ReadsGshadow text r ↔ (gshadow_format.read text ≡ Some r)
  pub subid : (text : List ℕ) (r : SubidRecord)
      → ReadsSubid text r ↔ (subid_format.read text ≡ Some r)

-- a text is a record exactly where its reader has no fault to name
pub record FaultsAreFound : Type 0 where
  pub passwd : (text : List ℕ) → is_some (passwd_format.read text) ≡ is_none (passwd_fault text)
  pub shadow : (text : List ℕ) → is_some (shadow_format.read text) ≡ is_none (shadow_fault text)
  pub group : (text : List ℕ) → is_some (group_format.read text) ≡ is_none (group_fault text)
  pub gshadow : (text : List ℕ) → is_some (gshadow_format.read text) ≡ is_none (gshadow_fault text)
  pub subid : (text : List ℕ) → is_some (subid_format.read text) ≡ is_none (subid_fault text)

-- a record whose fields a line can hold prints as one line, which reads as the same record
pub record RecordsReadBack : Type 0 where
  pub passwd : (r : PasswdRecord) → IsPasswd r → IsWritten passwd_format r
  pub shadow : (r : ShadowRecord) → IsShadow r → IsWritten shadow_format r
  pub group : (r : GroupRecord) → IsGroup r → IsWritten group_format r
  pub gshadow : (r : GshadowRecord) → IsGshadow r → IsWritten gshadow_format r
  pub subid : (r : SubidRecord) → IsSubid r → IsWritten subid_format r

-- the records of a table after its edits are those of the old table, edited one after another
abbrev pub EditsAreOfRecords : {R : Type 0} → Format R → Type 0
EditsAreOfRecords {R} format =
    (edits : List (Edit R)) (bytes : List ℕ) → AllByRecursion (IsWrittenEdit format) edits
    → table_records format (table_after format edits (Some bytes))
    ≡ fold (records_edited format) (table_records format (Some bytes)) edits

-- in each table
pub record TablesAreEdited : Type 0 where
  pub passwd : EditsAreOfRecords passwd_format
  pub shadow : EditsAreOfRecords shadow_format
  pub group : EditsAreOfRecords group_format
  pub gshadow : EditsAreOfRecords gshadow_format
  pub subid : EditsAreOfRecords subid_format

-- without edits the files stay, byte for byte
abbrev pub NoEditsNoChange : Type 0
NoEditsNoChange = (files : Files) → files_after no_edits files ≡ files

-- other text of a table stays as it is, in its order
abbrev pub EditsKeepOtherText : {R : Type 0} → Format R → Type 0
EditsKeepOtherText {R} format =
    (edits : List (Edit R)) (bytes : List ℕ) → AllByRecursion (IsWrittenEdit format) edits
    → other_texts format (lines_of (file_bytes (edited_by format edits (lines_of bytes))))
    ≡ other_texts format (lines_of bytes)

-- in each table
pub record OtherTextStays : Type 0 where
  pub passwd : EditsKeepOtherText passwd_format
  pub shadow : EditsKeepOtherText shadow_format
  pub group : EditsKeepOtherText group_format
  pub gshadow : EditsKeepOtherText gshadow_format
  pub subid : EditsKeepOtherText subid_format

-- the first touched line of a multiple name is the one that a `put` meets, where a `put` meets one of its name
abbrev pub FirstTouchedIsMet : {R : Type 0} → Format R → Type 0
FirstTouchedIsMet {R} format = (edits : List (Edit R)) (records : List R)
    → first_multiple format edits records ≡ first_met format records edits [] records

-- in each table of which a name may be multiple
pub record TouchedLinesAreMet : Type 0 where
  pub passwd : FirstTouchedIsMet passwd_format
  pub shadow : FirstTouchedIsMet shadow_format
  pub group : FirstTouchedIsMet group_format
  pub gshadow : FirstTouchedIsMet gshadow_format

-- lines that aren't touched stay byte for byte, in their order, where the edits change no order
abbrev pub UntouchedTextsStay : {R : Type 0} → Format R → Type 0
UntouchedTextsStay {R} format = (edits : List (Edit R)) (lines : List Line)
    → AllByRecursion KeepsOrder edits
    → AreAmong (untouched_texts format edits lines) (texts_of (edited_by format edits lines))

-- in each table
pub record UntouchedLinesStay : Type 0 where
  pub passwd : UntouchedTextsStay passwd_format
  pub shadow : UntouchedTextsStay shadow_format
  pub group : UntouchedTextsStay group_format
  pub gshadow : UntouchedTextsStay gshadow_format
  pub subid : UntouchedTextsStay subid_format
