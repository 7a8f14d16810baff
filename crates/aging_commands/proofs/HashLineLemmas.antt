-- Claim: a good line leaves what is refused to those behind it (`goes-on`), while a bad one is
-- refused (`stops`); and the lines that were read do what the lines do (`scripts-read`). Way: line
-- by line.
use Rattle.std.proofs.Common.{◌≡◌, ◌∙◌, ◌<◌, ℕ, suc, ◌+◌, true, List, [], ◌∷◌, ◌++◌, length, map, take, drop, get_or, refl, ap, sym, subst, add-one, Vec, Global, Result, Ok, Err}
use Rattle.std.specs.Prelude.{IsErrAnd}
use Rattle.std.proofs.Math.Seq.{take-suc, drop-cons}
use Rattle.std.proofs.lemmas.List.{map-append}
use Rattle.acct_text.specs.Bytes.{part_of}
use Rattle.tool_answers.specs.declared.tool_fault.ToolFault.{ToolFault}
use Rattle.tool_answers.specs.declared.tool_fault.ToolFault.TheVariants.{Refused, Memory}
use Rattle.table_edits.specs.Stopping.{StopsBy}
use Rattle.std.specs.Prelude.{Option, Some, None, option_map}
use Rattle.acct_text.specs.declared.files.Files.{Files}
use Rattle.acct_text.specs.Lines.{Line, texts_of}
use Rattle.account_model.specs.declared.hashes_of.HashesOf.{HashesOf}
use Rattle.account_model.specs.declared.refusal.LineProblem.{LineProblem}
use Rattle.account_model.specs.declared.refusal.Refusal.{Refusal}
use Rattle.account_model.specs.declared.refusal.Refusal.TheVariants.{BadLine}
use Rattle.account_model.specs.Chpasswd.{bad_line_from, line_problem, line_script}
use Rattle.aging_commands.specs.HashLines.{HashLine, hash_line, script_for, line_refusal, seen_new}
use Rattle.aging_commands.specs.declared.hash_lines.NewHash.{NewHash}

-- ---- Bad lines

-- a line of this text
abbrev pub text_line : List ℕ → Line
text_line text = record { text = text; ended = true }

-- the first bad line of these texts
abbrev pub bad_text_from : HashesOf → ℕ → Files → List (List ℕ) → Option Refusal
bad_text_from whose number files texts = bad_line_from whose number files (map text_line texts)

-- what is refused by the first line, else by those behind it
abbrev pub refused_by : ℕ → Option LineProblem → Option Refusal → Option Refusal
refused_by number problem behind = elim problem [
  | Some found ↦ Some (BadLine number found)
  | None ↦ behind
]

-- only the texts of lines count
pub bad-by-text :
    (whose : HashesOf) (number : ℕ) (files : Files) (lines : List Line)
    → bad_line_from whose number files lines ≡ bad_text_from whose number files (texts_of lines)
bad-by-text whose number files [] = refl
bad-by-text whose number files (line ∷ lines) =
    ap (refused_by number (line_problem whose files line.text))
    (bad-by-text whose (suc number) files lines)

-- the refusal of a line, by its problem
goes-on-by :
    (number : ℕ) (problem : Option LineProblem) (behind : Option Refusal)
    → option_map (BadLine number) problem ≡ None
    → refused_by number problem behind ≡ behind
goes-on-by number None behind good = refl
goes-on-by number (Some found) behind good = absurd cc

stops-by :
    (number : ℕ) (problem : Option LineProblem) (behind : Option Refusal) (refusal : Refusal)
    → option_map (BadLine number) problem ≡ Some refusal
    → refused_by number problem behind ≡ Some refusal
stops-by number None behind refusal bad = absurd cc
stops-by number (Some found) behind refusal bad = bad

-- a good line leaves it to those behind it
pub goes-on :
    (whose : HashesOf) (number : ℕ) (files : Files) (text : List ℕ) (texts : List (List ℕ))
    → line_refusal whose files number text ≡ None
    → bad_text_from whose number files (text ∷ texts) ≡ bad_text_from whose (suc number) files texts
goes-on whose number files text texts good =
    goes-on-by number (line_problem whose files text) (bad_text_from whose (suc number) files texts)
    good

-- a bad line is refused
pub stops :
    (whose : HashesOf) (number : ℕ) (files : Files) (text : List ℕ) (texts : List (List ℕ))
    (refusal : Refusal)
    → line_refusal whose files number text ≡ Some refusal
    → bad_text_from whose number files (text ∷ texts) ≡ Some refusal
stops whose number files text texts refusal bad =
    stops-by number (line_problem whose files text) (bad_text_from whose (suc number) files texts)
    refusal bad

-- a fault that is handed on stops as it did
pub handed-stops :
    {X : Type 0} (refusal : Option Refusal) (result : Result X ToolFault) (fault : ToolFault)
    → IsErrAnd result (λ found. found ≡ fault)
    → StopsBy {X = X} refusal (Err fault)
    → StopsBy refusal result
handed-stops refusal (Ok done) fault handed is = absurd handed
handed-stops {X} refusal (Err found) fault handed is =
    subst (λ fault. StopsBy {X = X} refusal (Err fault)) (sym handed) is

-- ---- The places of the lines

module _ (whose : HashesOf) (input : List ℕ) (places : List (ℕ × ℕ)) (index : ℕ) where
  -- the text of the line at this index
  abbrev pub text_at : List ℕ
  text_at = part_of input (get_or places index (0, 0))

  -- one line more is read
  pub read-more :
      (before after : List HashLine) (line : HashLine)
      → index < length places
      → before ≡ map hash_line (map (part_of input) (take index places))
      → after ≡ before ++ line ∷ []
      → line ≡ hash_line text_at
      → after ≡ map hash_line (map (part_of input) (take (index + 1) places))
  read-more before after line inside read more is =
      let taken = take-suc places index (0, 0) inside in
      let texts = ap (λ ps. map hash_line (map (part_of input) ps)) taken in
      let apart = ap (map hash_line)
      (map-append (part_of input) (take index places) (get_or places index (0, 0) ∷ []))
      ∙ map-append hash_line (map (part_of input) (take index places)) (text_at ∷ []) in
      more ∙ ap (λ ls. ls ++ line ∷ []) read
      ∙ ap (λ l. map hash_line (map (part_of input) (take index places)) ++ l ∷ []) is
      ∙ sym (rw add-one (texts ∙ apart))

  -- the lines from this index on
  texts-from :
      index < length places
      → map (part_of input) (drop index places)
      ≡ text_at ∷ map (part_of input) (drop (index + 1) places)
  texts-from inside = rw add-one (ap (map (part_of input)) (drop-cons places index (0, 0) inside))

  -- where this line is good, the first bad one is behind it
  pub good-more :
      (files : Files) (first : Option Refusal)
      → index < length places
      → first ≡ bad_text_from whose (index + 1) files (map (part_of input) (drop index places))
      → line_refusal whose files (index + 1) text_at ≡ None
      → first ≡ bad_text_from whose (index + 1 + 1) files
      (map (part_of input) (drop (index + 1) places))
  good-more files first inside is good =
      is ∙ ap (bad_text_from whose (index + 1) files) (texts-from inside)
      ∙ goes-on whose (index + 1) files text_at (map (part_of input) (drop (index + 1) places)) good
      ∙ ap (λ n. bad_text_from whose n files (map (part_of input) (drop (index + 1) places)))
      (sym (add-one (index + 1)))

  -- where this line is bad, it is the first
  pub stops-more :
      (files : Files) (first : Option Refusal) (fault : ToolFault)
      → index < length places
      → first ≡ bad_text_from whose (index + 1) files (map (part_of input) (drop index places))
      → StopsBy {X = NewHash} (line_refusal whose files (index + 1) text_at) (Err fault)
      → StopsBy {X = Vec NewHash Global} first (Err fault)
  stops-more files first Memory inside is bad = tt
  stops-more files first (Refused refusal) inside is bad =
      is ∙ ap (bad_text_from whose (index + 1) files) (texts-from inside)
      ∙ stops whose (index + 1) files text_at (map (part_of input) (drop (index + 1) places))
      refusal bad

-- ---- What the lines do

-- by what was read
scripts-seen :
    (whose : HashesOf) (files : Files) (day : ℕ) (hashes : List NewHash)
    → map (λ hash. script_for whose files day (seen_new hash)) hashes
    ≡ map (script_for whose files day) (map seen_new hashes)
scripts-seen whose files day [] = refl
scripts-seen whose files day (hash ∷ hashes) =
    ap (λ scripts. script_for whose files day (seen_new hash) ∷ scripts)
    (scripts-seen whose files day hashes)

-- by the texts
scripts-texts :
    (whose : HashesOf) (files : Files) (day : ℕ) (lines : List Line)
    → map (script_for whose files day) (map hash_line (texts_of lines))
    ≡ map (line_script whose files day) lines
scripts-texts whose files day [] = refl
scripts-texts whose files day (line ∷ lines) =
    ap (λ scripts. line_script whose files day line ∷ scripts) (scripts-texts whose files day lines)

-- the scripts of the lines that were read are those of the lines
pub scripts-read :
    (whose : HashesOf) (files : Files) (day : ℕ) (hashes : List NewHash) (lines : List Line)
    → map seen_new hashes ≡ map hash_line (texts_of lines)
    → map (λ hash. script_for whose files day (seen_new hash)) hashes
    ≡ map (line_script whose files day) lines
scripts-read whose files day hashes lines read =
    scripts-seen whose files day hashes ∙ ap (map (script_for whose files day)) read
    ∙ scripts-texts whose files day lines
