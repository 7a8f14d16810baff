-- Claim: what pwck reads of a line of shadow is what the line has (`hash-kept`); its name is the
-- first field (`hash-first`) and that of the line (`hash-named`), and its problems are told of
-- what is looked at (`hash-told`). Way: by what the line reads as.
use Rattle.std.proofs.Common.{rules, ◌≡◌, ◌∙◌, ℕ, true, false, List, [], ◌++◌, not, refl, sym, ap}
use Rattle.std.specs.Prelude.{Option, Some, None, Result, Ok, Err, is_none, is_some, option_map}
use Rattle.std.specs.Result.{MatchResult, result_ok}
use Rattle.acct_text.specs.Lines.{Line}
use Rattle.acct_text.specs.declared.files.Files.{Files}
use Rattle.account_model.specs.declared.fault.LineFault.{LineFault}
use Rattle.account_model.specs.declared.records.ShadowRecord.{ShadowRecord}
use Rattle.account_model.specs.Faults.{shadow_fault}
use Rattle.account_model.specs.Naming.{first_field}
use Rattle.account_model.specs.Records.{shadow_format}
use Rattle.account_model.proofs.FormatLaws.{shadow-is_format}
use Rattle.account_model.proofs.NamingLaws.{shadow-names_first}
use Rattle.account_model.specs.Problems.{ChangeInFuture, NoPasswdEntry, Problem, problem_if}
use Rattle.account_model.specs.Pwck.{is_after, shadow_problems}
use Rattle.account_model.specs.Users.{has_user}
use Rattle.acct_tables.specs.NameIndex.{line_name}
use Rattle.check_reports.specs.Hashes.{hash_in, seen_hash}
use Rattle.check_reports.specs.declared.hashes.Hash.{Hash}

-- what is looked at in a record
abbrev looked : ShadowRecord → List ℕ × Option ℕ
looked r = (r.name, r.last_change)

-- what is looked at, with this name in place of its own
abbrev with_name : List ℕ → List ℕ × Option ℕ → List ℕ × Option ℕ
with_name name hash = (name, hash.1)

-- the name of the two
abbrev name_of : List ℕ × Option ℕ → List ℕ
name_of hash = hash.0

-- the name in what was read
abbrev pub hash_name : Hash → List ℕ
hash_name hash = hash.name.now

-- the problems of what is looked at, behind others
abbrev pub told_of : Files → ℕ → List Problem → List ℕ × Option ℕ → List Problem
told_of files today before hash =
    before ++ (problem_if (not (has_user hash.0 files)) (NoPasswdEntry hash.0)
    ++ problem_if (is_after today hash.1) (ChangeInFuture hash.0))

module _ (text : List ℕ) where
  -- by what the line reads as, and its fault
  missing-by :
      (found : Option ShadowRecord) (fault : Option LineFault) (first : LineFault)
      → is_some found ≡ is_none fault
      → fault ≡ Some first
      → option_map looked found ≡ None
  missing-by None fault first same is = refl
  missing-by (Some r) fault first same is =
      let none : true ≡ false = same ∙ ap is_none is in absurd cc

  -- what was read of a line is what it has
  pub hash-kept :
      (read : Result Hash LineFault)
      → MatchResult read (λ hash. hash_in text ≡ Some (seen_hash hash))
      (λ first. shadow_fault text ≡ Some first)
      → hash_in text ≡ option_map seen_hash (result_ok read)
  hash-kept (Ok hash) is = is
  hash-kept (Err first) is =
      missing-by (shadow_format.read text) (shadow_fault text) first
      (shadow-is_format.faulted text) is

  -- by what the line reads as: a record begins with its name
  first-by :
      (found : Option ShadowRecord)
      → shadow_format.read text ≡ found
      → option_map looked found
      ≡ option_map (with_name (first_field text)) (option_map looked found)
  first-by None reads = refl
  first-by (Some r) reads =
      ap (λ (name : List ℕ). Some (with_name name (looked r)))
      (sym (shadow-names_first text r reads))

  -- what is looked at in a line has the first field for its name
  pub hash-first :
      (hash : Hash)
      → hash_in text ≡ Some (seen_hash hash)
      → hash_in text ≡ Some (with_name (first_field text) (seen_hash hash))
  hash-first hash is =
      first-by (shadow_format.read text) refl ∙ ap (option_map (with_name (first_field text))) is

-- the name of what is seen of a value that may be there
name-seen :
    {R : Type 0} (seen : R → List ℕ × Option ℕ) (found : Option R)
    → option_map (λ r. name_of (seen r)) found ≡ option_map name_of (option_map seen found)
name-seen seen None = refl
name-seen seen (Some r) = refl

-- a line is named by what is looked at
pub hash-named :
    (line : Line) (text : List ℕ) (found : Option Hash)
    → text ≡ line.text
    → hash_in text ≡ option_map seen_hash found
    → line_name shadow_format line ≡ option_map hash_name found
hash-named line text found same is =
    ap (λ (text : List ℕ). option_map shadow_format.name (shadow_format.read text)) (sym same)
    ∙ name-seen looked (shadow_format.read text)
    ∙ ap (option_map name_of) is
    ∙ sym (name-seen seen_hash found)

-- what is looked at has the problems of the record, behind others
pub hash-told :
    (files : Files) (today : ℕ) (before : List Problem) (found : Option ShadowRecord)
    → option_map (λ r. before ++ shadow_problems files today [] r) found
    ≡ option_map (told_of files today before) (option_map looked found)
hash-told files today before None = refl
hash-told files today before (Some r) = search rules
