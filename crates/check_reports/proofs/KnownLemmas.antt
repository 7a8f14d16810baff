-- Claim: a file has the records that its names tell of (`has_told`); with one line more noted they
-- are those up to it or of all (`next-by`), tell of its record whether one before it has the name
-- (`before-by`), and behind the last line are those of all (`whole-by`); and a GID is among those
-- of groups where a group has it (`gid_used`).
use Rattle.std.proofs.Common.{◌≡◌, ◌∙◌, ◌==◌, ℕ, Bool, true, false, List, [], ◌∷◌, ◌++◌, length, map, refl, sym, ap, subst}
use Rattle.std.specs.Prelude.{◌||◌, Some, is_some, if◌then◌else◌}
use Rattle.std.proofs.lemmas.List.{length-map, map-append}
use Rattle.acct_text.specs.Lines.{Line}
use Rattle.account_model.specs.declared.records.GroupRecord.{GroupRecord}
use Rattle.account_model.specs.Format.{Format, has_named, records_of}
use Rattle.account_model.specs.Tables.{table_records, table_lines}
use Rattle.account_model.specs.Ids.{is_used}
use Rattle.acct_tables.specs.NameIndex.{IsLineNoted, TellsOf, Told, begins_before, line_name, line_names, told}
use Rattle.acct_tables.proofs.NameIndexLemmas.{told-line}
use Rattle.acct_tables.proofs.NamedRecords.{told-before, told-has}
use Rattle.acct_tables.proofs.FileLemmas.{records-in}
use Rattle.check_reports.specs.declared.known.NamedFile.{NamedFile}
use Rattle.check_reports.specs.Known.{IsWhole, has_gid}

-- a GID is used where a group has it
pub gid_used :
    (groups : List GroupRecord) (gid : ℕ)
    → is_used (map (λ group. group.gid) groups) gid ≡ has_gid groups gid
gid_used [] gid = refl
gid_used (group ∷ groups) gid = ap (λ rest. (group.gid == gid) || rest) (gid_used groups gid)

module _ {R : Type 0} (format : Format R) where
  -- what is told of a name is there where a record of the file has it
  pub has_told :
      (table : NamedFile) (name : List ℕ)
      → IsWhole format table
      → is_some (told table.names name)
      ≡ has_named format name (table_records format table.file.now)
  has_told table name whole =
      let lines = table_lines table.file.now in
      ap is_some (whole name)
      ∙ told-has format name lines
      ∙ ap (has_named format name) (records-in format lines table.file.now (λ i. lines))

  -- behind the last line the names are those of all records
  pub whole-by :
      (is_whole : Bool) (all : List Line) (told : Told)
      → TellsOf (line_names format (if is_whole then all else all)) told
      → TellsOf (line_names format all) told
  whole-by true all told tells = tells
  whole-by false all told tells = tells

  module _ (done : List Line) (line : Line) where
    -- by whether all names were there, those up to the line are
    pub next-by :
        (is_whole : Bool) (all : List Line) (old new : Told)
        → TellsOf (line_names format (if is_whole then all else done)) old
        → (is_whole ≡ true → new ≡ old)
        → (is_whole ≡ false → IsLineNoted (line_name format line) (length done) old new)
        → TellsOf (line_names format (if is_whole then all else done ++ line ∷ [])) new
    next-by true all old new tells same noted =
        subst (λ told. TellsOf (line_names format all) told) (sym (same refl)) tells
    next-by false all old new tells same noted =
        subst (λ names. TellsOf names new) (sym (map-append (line_name format) done (line ∷ [])))
        (told-line (line_names format done) old tells (line_name format line) new
        (subst (λ n. IsLineNoted (line_name format line) n old new)
        (sym (length-map done (line_name format))) (noted refl)))

    -- the record of the line has the name of one before it where that is told, whatever is behind
    before-told :
        (ahead : List Line) (told : Told) (r : R)
        → TellsOf (line_names format (done ++ line ∷ ahead)) told
        → format.read line.text ≡ Some r
        → has_named format (format.name r) (records_of format done)
        ≡ begins_before (length done) (told (format.name r))
    before-told ahead told r tells reads =
        sym (told-before format done line ahead r reads)
        ∙ ap (begins_before (length done)) (sym (tells (format.name r)))

    -- by whether all names are there
    pub before-by :
        (is_whole : Bool) (rest : List Line) (told : Told) (r : R)
        → TellsOf (line_names format
        (if is_whole then done ++ line ∷ rest else done ++ line ∷ [])) told
        → format.read line.text ≡ Some r
        → has_named format (format.name r) (records_of format done)
        ≡ begins_before (length done) (told (format.name r))
    before-by true rest told r = before-told rest told r
    before-by false rest told r = before-told [] told r
