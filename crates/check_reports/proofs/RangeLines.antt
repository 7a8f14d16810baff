-- Claim: the lines of ranges are those of the records that they were taken from
-- (`lines-of-ranges`), of the file that is listed (`listed-records`).
use Rattle.std.proofs.Common.{◌≡◌, ◌∙◌, ℕ, ◌+◌, ◌==◌, true, false, List, [], ◌∷◌, ◌++◌, length, map, drop, suc, inl, inr, refl, sym, ap, arith}
use Rattle.std.specs.Prelude.{codes, filter, Option, None}
use Rattle.std.proofs.lemmas.Bool.{cases_Bool, eq-eqb, ne_eqb}
use Rattle.acct_text.specs.Bytes.{is_empty}
use Rattle.std.proofs.lemmas.List.{length-map}
use Rattle.acct_text.specs.declared.files.Files.{Files}
use Rattle.account_model.specs.declared.records.SubidRecord.{SubidRecord}
use Rattle.account_model.specs.declared.refusal.Refusal.TheVariants.{NoRanges}
use Rattle.account_model.specs.declared.tool.Tool.{Tool}
use Rattle.account_model.specs.Action.{outcome_of}
use Rattle.account_model.specs.Getsubids.{getsubids, listed_records, range_line, range_lines_from, ranges_of_user}
use Rattle.account_model.specs.Records.{subid_format}
use Rattle.account_model.specs.Request.{Request, has_option, operand}
use Rattle.account_model.specs.SubidOwner.{is_owned}
use Rattle.account_model.specs.Tables.{table_records}
use Rattle.account_model.specs.Text.{first_some}
use Rattle.account_model.specs.Users.{uid_of}
use Rattle.tool_answers.specs.Decisions.{refusal_output}
use Rattle.tool_answers.specs.declared.decision.Decision.{Decision}
use Rattle.tool_answers.specs.declared.decision.Decision.TheVariants.{Refuse}
use Rattle.subid_ranges.specs.Owned.{first_and_count}
use Rattle.check_reports.specs.Decided.{DecidesBy}
use Rattle.check_reports.specs.Listed.{listed_file, range_for}

module _ (user : List ℕ) where
  -- a line tells of a range its first ID and its count alone
  pub lines-of-ranges :
      (number : ℕ) (ranges : List SubidRecord)
      → range_lines_from number user (map (range_for user) (map first_and_count ranges))
      ≡ range_lines_from number user ranges
  lines-of-ranges number [] = refl
  lines-of-ranges number (r ∷ rest) =
      ap (λ back. range_line number user r ++ back) (lines-of-ranges (suc number) rest)

  -- the lines of ranges from a place on
  abbrev pub lines_left : ℕ → List (ℕ × ℕ) → List ℕ
  lines_left place ranges = range_lines_from place user (map (range_for user) (drop place ranges))

-- the records of the file that is listed
pub listed-records :
    (request : Request) (files : Files)
    → table_records subid_format (listed_file request files) ≡ listed_records request files
listed-records request files =
    elim (cases_Bool (has_option (codes "g") request)) [
      | inl given ↦ rw given refl
      | inr absent ↦ rw absent refl
    ]

-- there is none exactly where there is no pair
pub none-listed :
    (ranges : List SubidRecord) (pairs : List (ℕ × ℕ)) (count : ℕ)
    → pairs ≡ map first_and_count ranges
    → length pairs ≡ count
    → is_empty ranges ≡ (count == 0)
none-listed [] pairs count is counted =
    sym (eq-eqb count 0 (sym counted ∙ ap length is))
none-listed (r ∷ rest) pairs count is counted =
    let more : length pairs ≡ 1 + length rest = ap length is
    ∙ omega (arith, length-map rest first_and_count) in
    sym (ne_eqb count 0 (λ none. omega (arith, more, counted, none)))

module _ (request : Request) (files : Files) (listed : Option (List ℕ)) (user : List ℕ)
    (uid : Option ℕ)
    (is_listed : listed ≡ listed_file request files)
    (is_user : user ≡ operand request)
    (is_uid : uid ≡ uid_of user files) where
  -- the ranges that were found are those of the request
  pub ranges-found :
      filter (is_owned user uid) (table_records subid_format listed) ≡ ranges_of_user request files
  ranges-found =
      ap (λ uid. filter (is_owned user uid) (table_records subid_format listed)) is_uid
      ∙ ap (λ user. filter (is_owned user (uid_of user files)) (table_records subid_format listed))
      is_user
      ∙ ap (λ file. filter (is_owned (operand request) (uid_of (operand request) files))
      (table_records subid_format file))
      is_listed
      ∙ ap (filter (is_owned (operand request) (uid_of (operand request) files)))
      (listed-records request files)

-- without a range it refuses
pub none-refuses :
    (tool : Tool) (request : Request) (files : Files) (decision : Decision)
    → is_empty (ranges_of_user request files) ≡ true
    → decision
    ≡ Refuse (NoRanges (operand request)) (refusal_output tool (NoRanges (operand request)))
    → DecidesBy tool (getsubids request files) files decision
none-refuses tool request files decision none is = rw (none, outcome_of) is

-- and with one it doesn't
pub some-listed :
    (request : Request) (files : Files)
    → is_empty (ranges_of_user request files) ≡ false
    → first_some (getsubids request files).refusals ≡ None
some-listed request files some = rw some refl
